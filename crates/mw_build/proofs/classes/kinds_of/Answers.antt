use Rattle.std.proofs.lemmas.List.{drop_all}
use Rattle.mw_poset.specs.Order.{IsKindOf}
use Rattle.mw_poset.proofs.Members.{member-at}
use Rattle.mw_carry.proofs.Pairs.{paired_all}
use Rattle.mw_build.proofs.classes.kinds_of.Goals as goal

pub kind_of-requires : goal.kind_of-requires
kind_of-requires c = c.requires _ (member-at c.args.sorts.now c.loop-sort.sort-index 0 c.loop-sort-test.true)

pub returns : goal.returns
returns c =
    let sorts = c.args.sorts.now in
    paired_all (IsKindOf c.args.target.now.pairs) sorts _ c.loop-sort.kinds.items (drop_all c.loop-sort.sort-index sorts c.loop-sort-test.false) c.loop-sort.invariant
