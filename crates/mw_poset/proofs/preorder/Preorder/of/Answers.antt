use Rattle.std.specs.Prelude.{All}
use Rattle.std.proofs.Common.{sym, subst, ℕ, List}
use Rattle.mw_poset.specs.Order.{IsSort}
use Rattle.mw_poset.specs.Tables.{IsSymmetric, AreKinds}
use Rattle.mw_poset.proofs.Chains.{turned_too-symmetric}
use Rattle.mw_poset.proofs.Steps.{kinds_are, preorder_kept}
use Rattle.mw_poset.proofs.preorder.Preorder.of.Goals as goal

pub kinds_of-requires : goal.kinds_of-requires
kinds_of-requires c = subst (λ (ps : List (ℕ × ℕ)). IsSymmetric ps) (sym c.in_ok-both.ensures.pairs) (turned_too-symmetric c.args.pairs.now)

pub group-requires-clause-sorts : goal.group-requires-clause-sorts
group-requires-clause-sorts c =
    let k =
    kinds_are c.in_ok-links.links c.in_ok-both.both c.args.sorts c.args.pairs.now c.in_ok-kinds.kinds.items c.requires c.in_ok-links.ensures.sorts c.in_ok-links.ensures.pairs c.in_ok-both.ensures.sorts c.in_ok-both.ensures.pairs
    c.in_ok-kinds.ensures in
    subst (λ (xs : List ℕ). All (IsSort c.args.sorts) xs) (sym c.as_slice.ensures.value) (subst (λ (n : ℕ). All (IsSort n) c.in_ok-kinds.kinds.items) c.in_ok-links.ensures.sorts k.within)

pub rows_of-requires-clause-kinds : goal.rows_of-requires-clause-kinds
rows_of-requires-clause-kinds c =
    subst (λ (xs : List ℕ). AreKinds c.in_ok-links.links xs) (sym c.as_slice-2.ensures.value)
    (kinds_are c.in_ok-links.links c.in_ok-both.both c.args.sorts c.args.pairs.now c.in_ok-kinds.kinds.items c.requires c.in_ok-links.ensures.sorts c.in_ok-links.ensures.pairs c.in_ok-both.ensures.sorts c.in_ok-both.ensures.pairs
    c.in_ok-kinds.ensures)

pub invariant_of-result : goal.invariant_of-result
invariant_of-result c =
    preorder_kept c.in_ok-links.links c.in_ok-both.both c.args.sorts c.args.pairs.now c.in_ok-kinds.kinds.items c.as_slice.result.now c.as_slice-2.result.now c.in_ok-groups.groups.members.items c.in_ok-groups.groups.places.items
    c.in_ok-rows.rows.items c.requires c.in_ok-links.ensures.sorts c.in_ok-links.ensures.pairs c.in_ok-both.ensures.sorts c.in_ok-both.ensures.pairs c.in_ok-kinds.ensures c.as_slice.ensures.value c.as_slice-2.ensures.value
    c.in_ok-groups.ensures c.in_ok-rows.ensures
