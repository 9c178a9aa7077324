use Rattle.std.proofs.Common.{◌≡◌, map, take}
use Rattle.mw_sorts.specs.Marks.{is_marked}
use Rattle.mw_sorts.proofs.fault.level_marks.Given as goal

abbrev pub invariant-loop-row : goal.invariant-loop-row
invariant-loop-row l = l.marks.items ≡ map (is_marked l.next) (take l.row-index l.level)
