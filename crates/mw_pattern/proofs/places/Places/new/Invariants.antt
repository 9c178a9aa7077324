use Rattle.std.proofs.Common.{◌≡◌, take}
use Rattle.mw_pattern.proofs.places.Places.new.Given as goal

abbrev pub invariant-loop-x : goal.invariant-loop-x
invariant-loop-x l = l.places ≡ take l.x-index l.variables
