use Rattle.std.proofs.Common.{◌≡◌, take}
use Rattle.std.specs.List.{zip}
use Rattle.mw_match.proofs.Pairs.{pairs_of}
use Rattle.mw_match.proofs.bindings.bound.Given as goal

abbrev pub invariant-loop-i : goal.invariant-loop-i
invariant-loop-i l = pairs_of l.pairs.items ≡ take l.i (zip l.variables l.values)
