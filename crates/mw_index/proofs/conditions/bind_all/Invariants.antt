use Rattle.std.proofs.Common.{◌≡◌, take}
use Rattle.mw_index.proofs.conditions.bind_all.Given as goal

abbrev pub invariant-loop-i : goal.invariant-loop-i
invariant-loop-i l = l.bound ≡ take l.i l.variables
