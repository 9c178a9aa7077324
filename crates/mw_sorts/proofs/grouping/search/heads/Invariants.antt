use Rattle.mw_sorts.proofs.Heads.{AreHeadsSoFar}
use Rattle.mw_sorts.proofs.grouping.search.heads.Given as goal

abbrev pub invariant-loop-place : goal.invariant-loop-place
invariant-loop-place l = AreHeadsSoFar l.rows l.columns l.place l.seen l.heads.items
