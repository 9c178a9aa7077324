use Rattle.std.proofs.Common.{◌↔◌, length}
use Rattle.mw_omod.specs.Seen.{IsNamedTwice}
use Rattle.mw_omod.proofs.faults.is_named_twice.Given as goal

abbrev pub invariant-loop-rest : goal.invariant-loop-rest
invariant-loop-rest l = IsNamedTwice l.fn.elements ↔ IsNamedTwice l.rest

abbrev pub decreases-loop-rest : goal.decreases-loop-rest
decreases-loop-rest l = length l.rest
