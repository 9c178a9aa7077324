use Rattle.std.proofs.Common.{◌↔◌, length}
use Rattle.mw_omod.specs.Seen.{OneHas, Repeats}
use Rattle.mw_omod.proofs.faults.one_repeats.Given as goal

abbrev pub invariant-loop-rest : goal.invariant-loop-rest
invariant-loop-rest l = OneHas Repeats l.fn.elements ↔ OneHas Repeats l.rest

abbrev pub decreases-loop-rest : goal.decreases-loop-rest
decreases-loop-rest l = length l.rest
