use Rattle.std.proofs.Common.{◌≡◌, ◌≤◌, ◌+◌, List, drop, length}
use Rattle.mw_logic.specs.Term.{RawTerm}
use Rattle.mw_logic.specs.Terms.{terms_of}
use Rattle.mw_logic.specs.Signature.{Signature}
use Rattle.mw_frames.specs.Jobs.{sizes, weights}
use Rattle.mw_frames.specs.Arrivals.{Joins}
use Rattle.mw_frames.proofs.waiting.wait_terms.Given as goal

abbrev pub decreases-loop-left : goal.decreases-loop-left
decreases-loop-left l = l.left

abbrev pub invariant-loop-left : goal.invariant-loop-left
invariant-loop-left l = record {
  bound : l.left ≤ length l.terms;
  joins : (sig : Signature) (vs : List RawTerm) → Joins sig vs l.comm l.waits (terms_of (drop l.left l.terms)) (λ M n. Unit {0}) l.initial.jobs.items l.jobs.items;
  weight : (sig : Signature) (vs : List RawTerm) → weights sig vs l.jobs.items ≡ weights sig vs l.initial.jobs.items + sizes (terms_of (drop l.left l.terms));
}
