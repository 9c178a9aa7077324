-- What a module declares is an accepted signature, whose sorts are there and lie in their kinds.
use Rattle.std.proofs.Common.{◌≡◌, ◌∙◌, ℕ, List, [], ◌∷◌, ◌&&◌, length, map, Bool, true, false, Option, Some, None, All, if◌then◌else◌, refl, sym, ap, subst}
use Rattle.std.specs.Option.{option_or}
use Rattle.std.proofs.lemmas.Bool.{and_from}
use Rattle.std.proofs.lemmas.List.Elements.{All-nil, All-cons, All-head, All-tail}
use Rattle.std.specs.Prelude.{IsTrue, codes}
use Rattle.mw_logic.specs.Signature.{Signature, Operator, IsOperator, IsSortNamed}
use Rattle.mw_logic.specs.Built.{HasBuiltIns}
use Rattle.mw_sorting.specs.PreregularModulo.{HasNaturals}
use Rattle.mw_logic.specs.Accepted.{is_accepted_operator, are_accepted_operators, IsAccepted, IsWellSorted}
use Rattle.mw_logic.specs.Preregular.{IsSortOf, IsDeclarationOf, HasItsSorts}
use Rattle.mw_logic.proofs.AcceptedTest.{is_accepted-sound}
use Rattle.mw_carry.specs.Laws.{OperatorsApart}
use Rattle.mw_poset.specs.Order.{IsSort}
use Rattle.mw_poset.proofs.Members.{member-all}
use Rattle.mw_module.specs.declared.faults.Fault.{Fault}
use Rattle.mw_module.specs.declared.faults.FaultKind.TheVariants.{BadAxioms, AttributesDisagree}
use Rattle.mw_module.specs.Units.{SeenLined}
use Rattle.mw_declare.specs.declared.declarations.Declarations.{Declarations}
use Rattle.mw_declare.specs.declared.built.Reached.{Reached}
use Rattle.mw_declare.specs.declared.built.Built.{Built}
use Rattle.mw_declare.specs.Built.{truth_of, built_in}
use Rattle.mw_declare.specs.Hierarchy.{Hierarchy, hierarchy_of}
use Rattle.mw_declare.specs.Meaning.{sorts_of}
use Rattle.mw_declare.specs.Operators.{Declared, operators_from, with_built, operators_of, operator_of, IsOfLeastKinds, IsNumbered, signature_of}
use Rattle.mw_declare.specs.Faults.{Typing, wrong_with, wrong_among, operator_fault, told_at}
use Rattle.mw_declare.specs.Freezing.{are_in_range}
use Rattle.mw_declare.specs.Declarations.{declarations_with, unknown_in_all, operator_fault_of, IsAcyclic, Declares, DeclarationFault, of_operator}
use Rattle.mw_declare.proofs.Building.{zero_kind, nonzero_kind, naturals, quoted, built_ins}
use Rattle.mw_declare.proofs.KindNames.{numbered}
use Rattle.mw_declare.proofs.KindsApart.{declared_apart}
use Rattle.mw_declare.proofs.Pairs.{pairs_there}
use Rattle.mw_declare.proofs.Proper.{all_at}
use Rattle.mw_declare.proofs.Ranked.{IsRankedOperator, ranked_operators}
use Rattle.mw_declare.proofs.Sorted.{HasItsSortsIn, operators_sorted}
use Rattle.mw_declare.proofs.SortNames.{sorts_differ}

neither : {X : Type 0} (o p : Option X) → option_or o p ≡ None → (o ≡ None) × (p ≡ None)
neither None p e = (refl, e)
neither (Some x) p e = cc

accepted_where : (sig : Signature) (b : Built) (all : List Declared) (o : Declared) → wrong_with sig b all o ≡ None → is_accepted_operator sig (operator_of b all o) ≡ true
accepted_where sig b all o e = of (is_accepted_operator sig (operator_of b all o)) (are_in_range (length o.profile.args) o.attributes) e
  where
    of : (c d : Bool) → (if c && d then (if o.attributes.clash then Some (AttributesDisagree o.profile.spelling) else None) else Some (BadAxioms o.profile.spelling)) ≡ None → c ≡ true
    of true true k = refl
    of true false k = cc
    of false d k = cc

all_accepted : (sig : Signature) (b : Built) (all os : List Declared) → wrong_among sig b all os ≡ None → are_accepted_operators sig (map (operator_of b all) os) ≡ true
all_accepted sig b all [] e = refl
all_accepted sig b all (o ∷ os) e =
    let k = neither (wrong_with sig b all o) (wrong_among sig b all os) e in and_from _ _ (accepted_where sig b all o k.0) (all_accepted sig b all os k.1)

module _ (r : Reached) (ss : List SeenLined) where
  abbrev sig : Signature
  sig = signature_of r ss

  accepted : operator_fault_of r ss ≡ None → IsAccepted sig
  accepted fine = is_accepted-sound sig (and_from _ _ (all_accepted sig (built_in r (hierarchy_of ss) ss) (operators_of ss) (operators_of ss) fine) (sorts_differ ss))

  module _ (known : unknown_in_all ss ≡ None) where
    sorted_at : (f : ℕ) (o : Operator) → IsOperator sig f o → HasItsSortsIn sig o
    sorted_at f o e = all_at (HasItsSortsIn sig) sig.operators (operators_sorted r ss known) f o e

    sorts_held : HasItsSorts sig
    sorts_held = record {
      pairs = λ S T m. let n = length sig.sorts in member-all (λ (p : ℕ × ℕ). IsSort n p.0 × IsSort n p.1) sig.pairs (pairs_there sig.sorts ss known) (S, T) m;
      args = λ f o e K m. member-all (IsSortOf sig) o.args (sorted_at f o e).args K m;
      results = λ f o e. (sorted_at f o e).result;
      declarations = λ f o e d m. member-all (IsDeclarationOf sig o) o.declarations (sorted_at f o e).declarations d m;
    }

    well_sorted : IsWellSorted sig
    well_sorted = record {
      results = λ f o d e m. (sorts_held.declarations f o e d m).result;
      zero = λ S n e. zero_kind r ss known n S e;
      nonzero = λ S n e. nonzero_kind r ss known n S e;
    }

-- kinds are named by their least sorts
least_kinds : (r : Reached) (ss : List SeenLined) → unknown_in_all ss ≡ None → (os : List Declared) → All (IsRankedOperator (signature_of r ss)) os → All (IsOfLeastKinds (hierarchy_of ss)) os
least_kinds r ss known [] all = All-nil (IsOfLeastKinds (hierarchy_of ss))
least_kinds r ss known (o ∷ os) all =
    let h = All-head (IsRankedOperator (signature_of r ss)) o os all in
    All-cons (IsOfLeastKinds (hierarchy_of ss)) o os (record { within = pairs_there (sorts_of ss) ss known; args = h.args; result = h.result })
    (least_kinds r ss known os (All-tail (IsRankedOperator (signature_of r ss)) o os all))

all_least : (r : Reached) (ss : List SeenLined) → unknown_in_all ss ≡ None → All (IsOfLeastKinds (hierarchy_of ss)) (operators_of ss)
all_least r ss known = least_kinds r ss known (operators_of ss) (ranked_operators r ss known)

-- the sorts h, what is built in and the operators os of statements that are fine declare d
module _ (r : Reached) (ss : List SeenLined) (known : unknown_in_all ss ≡ None) (acyclic : IsAcyclic (hierarchy_of ss)) (h : Hierarchy) (sorts : h ≡ hierarchy_of ss)
    (b : Built) (built : b ≡ built_in r h ss) (os : List Declared) (operators : os ≡ with_built b.truth h (operators_from h [] ss)) where
  built_is : b ≡ built_in r (hierarchy_of ss) ss
  built_is = built ∙ ap (λ h. built_in r h ss) sorts

  operators_are : os ≡ operators_of ss
  operators_are =
      operators ∙ ap (λ (b : Built). with_built b.truth h (operators_from h [] ss)) built ∙ ap (λ h. with_built (truth_of h ss) h (operators_from h [] ss)) sorts

  pub least_held : All (IsOfLeastKinds (hierarchy_of ss)) os
  least_held = subst (All (IsOfLeastKinds (hierarchy_of ss))) (sym operators_are) (all_least r ss known)

  pub numbered_held : IsNumbered (hierarchy_of ss) b
  numbered_held = subst (IsNumbered (hierarchy_of ss)) (sym built_is) (numbered ss known r)

  same_fault : operator_fault_of r ss ≡ operator_fault b (hierarchy_of ss) os
  same_fault =
      ap (λ (b : Built). operator_fault b (hierarchy_of ss) (operators_of ss)) (sym built_is) ∙ ap (operator_fault b (hierarchy_of ss)) (sym operators_are)

  pub fault_held : (line : ℕ) (f : Fault) → told_at line (operator_fault b (hierarchy_of ss) os) ≡ Some f → DeclarationFault r line ss f
  fault_held line f e = of_operator known acyclic (ap (told_at line) same_fault ∙ e)

  pub declared_held : operator_fault b (hierarchy_of ss) os ≡ None → (typing : Typing) (d : Declarations) → d ≡ declarations_with b h os typing → Declares r typing ss d
  declared_held fine typing d is = record {
    known = known;
    acyclic = acyclic;
    fine = same_fault ∙ fine;
    declared = is ∙ ap (λ h. declarations_with b h os typing) sorts ∙ ap (λ os. declarations_with b (hierarchy_of ss) os typing) operators_are
        ∙ ap (λ (b : Built). declarations_with b (hierarchy_of ss) (operators_of ss) typing) built_is;
  }

-- what statements declare
module _ (r : Reached) (typing : Typing) (ss : List SeenLined) (d : Declarations) (p : Declares r typing ss d) where
  signature_is : d.signature ≡ signature_of r ss
  signature_is = ap (λ (d : Declarations). d.signature) p.declared

  pub accepted_declared : IsAccepted d.signature
  accepted_declared = subst IsAccepted (sym signature_is) (accepted r ss p.fine)

  pub well_sorted_declared : IsWellSorted d.signature
  well_sorted_declared = subst IsWellSorted (sym signature_is) (well_sorted r ss p.known)

  pub apart_declared : OperatorsApart d.signature
  apart_declared = subst OperatorsApart (sym signature_is) (declared_apart r ss p.known)

  pub sorts_declared : HasItsSorts d.signature
  sorts_declared = subst HasItsSorts (sym signature_is) (sorts_held r ss p.known)

  pub naturals_declared : IsTrue d.signature.nat → HasNaturals d.signature
  naturals_declared = subst (λ (sig : Signature). IsTrue sig.nat → HasNaturals sig) (sym signature_is) (naturals r ss p.known)

  pub quoted_declared : IsTrue d.signature.qid → (S : ℕ) × IsSortNamed d.signature S (codes "Qid")
  quoted_declared = subst (λ (sig : Signature). IsTrue sig.qid → (S : ℕ) × IsSortNamed sig S (codes "Qid")) (sym signature_is) (quoted r ss p.known)

  pub built_declared : HasBuiltIns d.signature
  built_declared = subst HasBuiltIns (sym signature_is) (built_ins r ss p.known)
