use Rattle.std.proofs.Common.{◌≡◌, length, map}
use Rattle.mw_module.specs.Rows.{seen_row}
use Rattle.mw_module.specs.Reading.{row_for}
use Rattle.mw_module.proofs.machine.row_for.Given as goal

abbrev pub invariant-loop-rest : goal.invariant-loop-rest
invariant-loop-rest l = row_for l.depth l.text (map seen_row l.rest) ≡ row_for l.depth l.text (map seen_row l.rows)

abbrev pub decreases-loop-rest : goal.decreases-loop-rest
decreases-loop-rest l = length l.rest
