use Rattle.std.proofs.Common.{take}
use Rattle.mw_poset.specs.Search.{Marks}
use Rattle.mw_poset.proofs.search.mark.Given as goal

abbrev pub invariant-loop-sort : goal.invariant-loop-sort
invariant-loop-sort l = Marks l.from (take l.sort-index l.sorts) l.initial.marks l.marks l.initial.waiting.items l.waiting.items
