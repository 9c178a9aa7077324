use Rattle.std.proofs.Common.{◌≡◌, take}
use Rattle.mw_position.specs.Variables.{sorts_of}
use Rattle.mw_pattern.proofs.places.Places.sorts.Given as goal

abbrev pub invariant-loop-i : goal.invariant-loop-i
invariant-loop-i l = l.sorts.items ≡ sorts_of (take l.i l.self)
