use Rattle.std.proofs.Common.{◌≡◌, take}
use Rattle.mw_compile.proofs.placing.variables_of.Given as goal

abbrev pub invariant-loop-i : goal.invariant-loop-i
invariant-loop-i l = l.variables.items ≡ take l.i l.places
