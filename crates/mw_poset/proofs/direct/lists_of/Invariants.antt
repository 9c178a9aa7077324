use Rattle.std.proofs.Common.{take}
use Rattle.mw_poset.specs.Tables.{AreListsOf}
use Rattle.mw_poset.proofs.direct.lists_of.Given as goal

abbrev pub invariant-loop-lower : goal.invariant-loop-lower
invariant-loop-lower l = AreListsOf l.sorts (take l.lower-index l.pairs) l.lists.items
