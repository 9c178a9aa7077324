use Rattle.std.proofs.Common.{◌*◌}
use Rattle.mw_logic.specs.NormalForm.{height}
use Rattle.mw_print.proofs.printing.+precedence.Given as goal

abbrev pub decreases-precedence : goal.decreases-precedence
decreases-precedence l = 2 * height l.term.now
