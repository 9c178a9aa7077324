use Rattle.std.proofs.Common.{map, length}
use Rattle.std.specs.Prelude.{is_none}
use Rattle.mw_sorts.proofs.Marking.{AreMarkedSoFar}
use Rattle.mw_sorts.proofs.fault.all_marks.Given as goal

abbrev pub invariant-loop-rest : goal.invariant-loop-rest
invariant-loop-rest l = AreMarkedSoFar l.levels (map is_none l.ends) l.rest l.marks.items l.behind.items

abbrev pub decreases-loop-rest : goal.decreases-loop-rest
decreases-loop-rest l = length l.rest
