use Rattle.std.proofs.Common.{◌≡◌, drop, map}
use Rattle.mw_term.specs.Signatures.{gather_of}
use Rattle.mw_print.specs.Printing.{has_less}
use Rattle.mw_print.proofs.printing.has_less.Given as goal

abbrev pub invariant-loop-mark : goal.invariant-loop-mark
invariant-loop-mark l = has_less (map gather_of (drop l.mark-index l.gather)) ≡ has_less (map gather_of l.gather)
