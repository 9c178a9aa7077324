use Rattle.std.proofs.Common.{drop}
use Rattle.mw_poset.specs.Order.{IsKindOf}
use Rattle.mw_carry.proofs.Pairs.{IsPaired}
use Rattle.mw_build.proofs.classes.kinds_of.Given as goal

abbrev pub invariant-loop-sort : goal.invariant-loop-sort
invariant-loop-sort l = IsPaired (IsKindOf l.target.pairs) l.sorts (drop l.sort-index l.sorts) l.kinds.items
