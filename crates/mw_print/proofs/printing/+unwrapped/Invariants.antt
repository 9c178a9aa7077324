use Rattle.std.proofs.Common.{◌*◌}
use Rattle.mw_logic.specs.NormalForm.{height}
use Rattle.mw_print.proofs.printing.+unwrapped.Given as goal

abbrev pub decreases-unwrapped : goal.decreases-unwrapped
decreases-unwrapped l = 2 * height l.term.now
