-- What a module declares has a grammar.
use Rattle.std.proofs.Common.{◌≡◌, ℕ, List, None, IsTrue, codes, sym, subst}
use Rattle.mw_logic.specs.Term.{Variable}
use Rattle.mw_logic.specs.Signature.{Signature, Operator, IsOperator, IsSortNamed, Member}
use Rattle.mw_logic.specs.Accepted.{IsAccepted}
use Rattle.mw_logic.specs.Preregular.{IsSortOf}
use Rattle.mw_poset.proofs.Members.{member-all}
use Rattle.mw_grammar.specs.Readable.{HasOne, IsReadable, AreVariables}
use Rattle.mw_module.specs.Known.{AreKnown}
use Rattle.mw_module.specs.Units.{SeenLined}
use Rattle.mw_sorting.specs.PreregularModulo.{HasNaturals}
use Rattle.mw_declare.specs.Operators.{signature_of}
use Rattle.mw_declare.specs.declared.built.Reached.{Reached}
use Rattle.mw_declare.specs.declared.declarations.Declarations.{Declarations}
use Rattle.mw_declare.specs.Declarations.{unknown_in_all}
use Rattle.mw_build.specs.Modules.{IsOfKnown}
use Rattle.mw_declare.proofs.Accepting.{accepted_declared, naturals_declared, quoted_declared}
use Rattle.mw_declare.proofs.Known.{IsDeclared, declared_operators}
use Rattle.mw_declare.proofs.Proper.{all_at, declared_sorted}

operator_known : (r : Reached) (ss : List SeenLined) → AreKnown ss → unknown_in_all ss ≡ None → (f : ℕ) (o : Operator) → IsOperator (signature_of r ss) f o → IsDeclared (signature_of r ss) o
operator_known r ss formed known f o e = all_at (IsDeclared (signature_of r ss)) (signature_of r ss).operators (declared_operators r ss formed known) f o e

-- numerals, or quoted identifiers, have one sort
named_once : (sig : Signature) → IsAccepted sig → (name : List ℕ) → (S : ℕ) → IsSortNamed sig S name → HasOne sig name
named_once sig ok name S named = (S, named, λ T other. ok.sorts_differ T S name other named)

readable_signature : (r : Reached) (ss : List SeenLined) → AreKnown ss → unknown_in_all ss ≡ None → IsAccepted (signature_of r ss)
    → (IsTrue (signature_of r ss).nat → HasNaturals (signature_of r ss)) → (IsTrue (signature_of r ss).qid → (S : ℕ) × IsSortNamed (signature_of r ss) S (codes "Qid"))
    → IsReadable (signature_of r ss)
readable_signature r ss formed known accepted naturals quoted = record {
  names = λ f o e. let name = (operator_known r ss formed known f o e).name in (name.some, name.no_hole);
  args = λ f o K e m. (member-all (IsSortOf (signature_of r ss)) o.args (operator_known r ss formed known f o e).args K m).1;
  results = λ f o e. (operator_known r ss formed known f o e).result.1;
  precedences = λ f o e. (operator_known r ss formed known f o e).precedence;
  assoc = accepted.assoc;
  numbers = λ h. let n = naturals h in named_once (signature_of r ss) accepted (codes "Nat") n.Nat n.nat_named;
  identifiers = λ h. let (S, named) = quoted h in named_once (signature_of r ss) accepted (codes "Qid") S named;
}

module _ (d : Declarations) (k : IsOfKnown d) where
  pub readable_declared : IsReadable d.signature
  readable_declared = subst (λ (d : Declarations). IsReadable d.signature) (sym k.declared.declared)
      (readable_signature k.reached k.statements k.known k.declared.known (subst (λ (d : Declarations). IsAccepted d.signature) k.declared.declared (accepted_declared k.reached k.typing k.statements d k.declared))
      (subst (λ (d : Declarations). IsTrue d.signature.nat → HasNaturals d.signature) k.declared.declared (naturals_declared k.reached k.typing k.statements d k.declared))
      (subst (λ (d : Declarations). IsTrue d.signature.qid → (S : ℕ) × IsSortNamed d.signature S (codes "Qid")) k.declared.declared (quoted_declared k.reached k.typing k.statements d k.declared)))

  -- the sorts of variables are there
  pub sorted_variables : (x : Variable) → Member x d.variables → IsSortOf d.signature x.sort
  sorted_variables = member-all (λ (x : Variable). IsSortOf d.signature x.sort) d.variables (declared_sorted k.own k.statements k.within k.typing k.typed k.reached d k.declared)

  pub variables_declared : AreVariables d.signature d.variables
  variables_declared x m = (sorted_variables x m).1
