use Rattle.std.proofs.Common.{◌≤◌, ◌+◌, ℕ, List, drop, length, false}
use Rattle.mw_logic.specs.Term.{RawTerm}
use Rattle.mw_logic.specs.Terms.{terms_of}
use Rattle.mw_logic.specs.Signature.{Signature}
use Rattle.mw_logic.proofs.Canonical.{Each}
use Rattle.mw_frames.specs.Jobs.{sizes, weights}
use Rattle.mw_frames.specs.State.{IsNormalHere}
use Rattle.mw_frames.specs.Arrivals.{Joins}
use Rattle.mw_frames.proofs.coming.wait_normal.Given as goal

abbrev pub decreases-loop-left : goal.decreases-loop-left
decreases-loop-left l = l.left

abbrev pub invariant-loop-left : goal.invariant-loop-left
invariant-loop-left l = record {
  bound : l.left ≤ length l.terms;
  joins : (sig : Signature) (vs : List RawTerm) (w : ℕ)
      → Joins sig vs false w (terms_of (drop l.left l.terms)) (λ M n. Each (IsNormalHere M n) (terms_of (drop l.left l.terms))) l.initial.jobs.items l.jobs.items;
  weight : (sig : Signature) (vs : List RawTerm) → weights sig vs l.jobs.items ≤ weights sig vs l.initial.jobs.items + sizes (terms_of (drop l.left l.terms));
}
