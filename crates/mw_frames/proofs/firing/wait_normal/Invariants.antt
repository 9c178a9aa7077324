use Rattle.std.proofs.Common.{◌≡◌, ◌++◌, vec_len}
use Rattle.mw_frames.specs.Taking.{waiting_normal}
use Rattle.mw_frames.proofs.firing.wait_normal.Given as goal

abbrev pub invariant-loop-term : goal.invariant-loop-term
invariant-loop-term l = l.jobs.items ++ waiting_normal l.terms.items ≡ l.fn.jobs.items ++ waiting_normal l.fn.terms.items

abbrev pub decreases-loop-term : goal.decreases-loop-term
decreases-loop-term l = vec_len l.terms
