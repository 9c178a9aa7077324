use Rattle.mw_search.proofs.BagLists.{IsRunsFrom}
use Rattle.mw_search.proofs.bags.runs.Given as goal

abbrev pub invariant-loop-i : goal.invariant-loop-i
invariant-loop-i l = IsRunsFrom l.elements l.i l.heads.items l.numbers.items

abbrev pub decreases-loop-i : goal.decreases-loop-i
decreases-loop-i l = l.i
