use Rattle.std.proofs.Common.{◌≡◌, ◌++◌, take}
use Rattle.mw_spot.proofs.gathering.push_copies.Given as goal

abbrev pub invariant-loop-term : goal.invariant-loop-term
invariant-loop-term l = l.args.items ≡ l.fn.args.items ++ take l.term-index l.terms
