use Rattle.std.proofs.Common.{◌+◌, length}
use Rattle.mw_poset.specs.Search.{unmarked}
use Rattle.mw_poset.proofs.Marking.{Search}
use Rattle.mw_poset.proofs.search.mark_reached.Given as goal

abbrev pub invariant-loop-sort : goal.invariant-loop-sort
invariant-loop-sort l = Search l.links l.from l.fn.marks l.marks l.waiting.items

abbrev pub decreases-loop-sort : goal.decreases-loop-sort
decreases-loop-sort l = unmarked l.from l.marks + length l.waiting.items
