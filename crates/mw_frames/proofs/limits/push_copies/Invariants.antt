use Rattle.std.proofs.Common.{◌≡◌, ◌++◌, take}
use Rattle.mw_frames.proofs.limits.push_copies.Given as goal

abbrev pub invariant-loop-term : goal.invariant-loop-term
invariant-loop-term l = l.found.items ≡ l.fn.found.items ++ take l.term-index l.terms
