use Rattle.std.proofs.Common.{◌≡◌, ◌≤◌, List, drop, length, false}
use Rattle.mw_logic.specs.Term.{RawTerm}
use Rattle.mw_logic.specs.Signature.{Signature}
use Rattle.mw_logic.specs.TermOrder.{stands_after}
use Rattle.mw_logic.proofs.Canonical.{Each}
use Rattle.mw_frames.specs.Jobs.{term_of, rest}
use Rattle.mw_frames.proofs.waiting.place_of_job.Given as goal

abbrev pub decreases-loop-at : goal.decreases-loop-at
decreases-loop-at l = l.at

abbrev pub invariant-loop-at : goal.invariant-loop-at
invariant-loop-at l = record {
  bound : l.at ≤ length l.jobs;
  within : l.waits ≤ length l.jobs → l.waits ≤ l.at;
  before : (sig : Signature) (vs : List RawTerm) → Each (λ u. stands_after u (term_of sig vs l.job) ≡ false) (rest sig vs (drop l.at l.jobs));
}
