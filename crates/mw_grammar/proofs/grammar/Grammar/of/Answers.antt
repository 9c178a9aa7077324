use Rattle.std.proofs.Common.{◌≡◌, ◌∙◌, ℕ, List, length, codes, Bool, IsTrue, Option, None, Some, sym, ap, subst}
use Rattle.std.specs.Global.{Global}
use Rattle.std.specs.declared.vec.Vec.{Vec}
use Rattle.mw_logic.specs.Signature.{Signature, IsSortNamed}
use Rattle.mw_grammar.specs.declared.grammar.Grammar.{Grammar}
use Rattle.mw_grammar.specs.Readable.{AreKinds, kind_in, IsKindNamed}
use Rattle.mw_grammar.specs.Notations.{IsNotation}
use Rattle.mw_grammar.specs.Compiled.{IsCompiled}
use Rattle.mw_grammar.specs.Leaves.{IsNamed}
use Rattle.mw_grammar.specs.Listing.{IsListed, Lists}
use Rattle.mw_grammar.specs.Grammars.{IsGrammarOf}
use Rattle.mw_grammar.proofs.Opening.{table_opens}
use Rattle.mw_grammar.proofs.Made.{Extends-trans}
use Rattle.mw_grammar.proofs.Listings.{listing_grows}
use Rattle.mw_grammar.proofs.grammar.Grammar.of.Goals as goal
use Rattle.mw_grammar.proofs.grammar.Grammar.of.Goals.{In_ok-new}

-- the sorts of a name are those that are listed by it
kind_of_sort : (sig : Signature) (kind : ℕ → ℕ) (names : List (List ℕ)) (named : List (Vec ℕ Global)) (name : List ℕ) (given wanted : Bool) (K : Option ℕ) → given ≡ wanted → Lists names named (IsNamed sig.sorts)
    → IsKindNamed (IsListed names named name) kind given K → IsKindNamed (λ S. IsSortNamed sig S name) kind wanted K
kind_of_sort sig kind names named name given wanted None e l k = λ h S is. k (subst IsTrue (sym e) h) S ((l.own name S).1 is)
kind_of_sort sig kind names named name given wanted (Some K) e l (h, S, is, f) = (subst IsTrue e h, S, (l.own name S).0 is, f)

made : (c : In_ok-new) → IsGrammarOf c.args.signature.now c.args.variables.now c.in_ok-new.field-0.value
made c =
    let sig = c.args.signature.now in
    let kinds : c.in_ok-kinds.kinds.items ≡ c.of.result = sym c.of.ensures in
    let compiled = subst (λ (ks : List ℕ). IsCompiled (length sig.sorts) (IsNotation (kind_in ks) sig) c.compile.new.names c.in_ok-table.table) (c.as_slice-4.ensures.value ∙ kinds) c.in_ok-table.ensures.table in
    let sorts = subst (λ (ss : List (List ℕ)). Lists c.sorts_by_name.new.names c.in_ok-named.named.items (IsNamed ss)) (c.as_slice.ensures ∙ ap (λ (s : Signature). s.sorts) c.signature.view_is) c.in_ok-named.ensures.listed in
    subst (λ (g : Grammar). IsGrammarOf sig c.args.variables.now g) (sym c.in_ok-new.ensures.ok) (record {
      kinds = subst (λ (ks : List ℕ). AreKinds sig (kind_in ks)) kinds c.in_ok-kinds.ensures;
      readable = c.requires.readable;
      declared = c.requires.variables;
      compiled = compiled;
      sorts = listing_grows c.sorts_by_name.new.names c.compile.new.names _ _
          (Extends-trans c.sorts_by_name.new.names c.variables_by_name.new.names c.compile.new.names c.in_ok-declared.ensures.names c.in_ok-table.ensures.names) sorts;
      variables_are = listing_grows c.variables_by_name.new.names c.compile.new.names _ _ c.in_ok-table.ensures.names c.in_ok-declared.ensures.listed;
      numbers = kind_of_sort sig (kind_in c.of.result) c.sorts_by_name.new.names c.in_ok-named.named.items (codes "Nat") c.signature.inside.nat sig.nat c.in_ok-numbers.numbers (ap (λ (s : Signature). s.nat) c.signature.view_is) sorts
          (subst (λ (ks : List ℕ). IsKindNamed (IsListed c.sorts_by_name.new.names c.in_ok-named.named.items (codes "Nat")) (kind_in ks) c.signature.inside.nat c.in_ok-numbers.numbers) (c.as_slice-2.ensures.value ∙ kinds) c.in_ok-numbers.ensures);
      identifiers = kind_of_sort sig (kind_in c.of.result) c.sorts_by_name.new.names c.in_ok-named.named.items (codes "Qid") c.signature.inside.qid sig.qid c.in_ok-identifiers.identifiers (ap (λ (s : Signature). s.qid) c.signature.view_is) sorts
          (subst (λ (ks : List ℕ). IsKindNamed (IsListed c.sorts_by_name.new.names c.in_ok-named.named.items (codes "Qid")) (kind_in ks) c.signature.inside.qid c.in_ok-identifiers.identifiers) (c.as_slice-3.ensures.value ∙ kinds) c.in_ok-identifiers.ensures);
      reading = table_opens (kind_in c.of.result) sig c.compile.new.names c.in_ok-table.table c.requires.readable compiled;
    })

pub returns : goal.returns
returns c = record { grammar = made c; reading = (made c).reading }
