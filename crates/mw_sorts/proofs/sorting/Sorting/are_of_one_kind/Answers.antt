use Rattle.std.proofs.Common.{sym, subst, refl, ℕ}
use Rattle.std.specs.Prelude.{◌↔◌, IsTrue, nat_eq}
use Rattle.std.proofs.lemmas.Bool.{eqb-true, eq-eqb}
use Rattle.mw_logic.specs.Signature.{Signature, SameKind}
use Rattle.mw_poset.specs.SortOrder.{SortOrder}
use Rattle.mw_poset.specs.Order.{IsKindOf}
use Rattle.mw_sorts.specs.Sorting.{Sorting}
use Rattle.mw_sorts.proofs.Connected.{kind-one, kind-with}
use Rattle.mw_logic.proofs.KindLaws.{SameKind-trans, SameKind-sym}
use Rattle.mw_sorts.proofs.sorting.Sorting.are_of_one_kind.Goals as goal

one_kind : (sig : Signature) (S T K L : ℕ) → IsKindOf sig.pairs S K → IsKindOf sig.pairs T L → IsTrue (nat_eq K L) ↔ SameKind sig S T
one_kind sig S T K L k l = (to, from)
  where
    to : IsTrue (nat_eq K L) → SameKind sig S T
    to h = SameKind-trans (k.same sig refl) (subst (λ M. SameKind sig M T) (sym (eqb-true K L h)) (SameKind-sym (l.same sig refl)))

    from : SameKind sig S T → IsTrue (nat_eq K L)
    from h = eq-eqb K L (kind-one sig S K L k (kind-with sig T S L h l))

pub returns : goal.returns
returns c =
    let i = c.self.inside in
    let k : IsKindOf i.signature.now.pairs c.args.first c.kind_of.result = subst (λ (g : SortOrder). IsKindOf g.pairs c.args.first c.kind_of.result) c.self.invariant.in_order c.kind_of.ensures in
    let l : IsKindOf i.signature.now.pairs c.args.second c.kind_of-2.result = subst (λ (g : SortOrder). IsKindOf g.pairs c.args.second c.kind_of-2.result) c.self.invariant.in_order c.kind_of-2.ensures in
    subst (λ (g : Sorting). IsTrue (nat_eq c.kind_of.result c.kind_of-2.result) ↔ SameKind g.signature c.args.first c.args.second) c.self.view_is
    (one_kind i.signature.now c.args.first c.args.second c.kind_of.result c.kind_of-2.result k l)
