use Rattle.std.proofs.Common.{◌≡◌, ◌≤◌, ℕ, length, List}
use Rattle.mw_logic.specs.Term.{RawTerm}
use Rattle.mw_logic.specs.Signature.{Signature}
use Rattle.mw_frames.specs.Jobs.{weights}
use Rattle.mw_frames.specs.State.{Run, IsRun, Settled}
use Rattle.mw_frames.specs.Machines.{data_of}
use Rattle.mw_frames.proofs.passing.pass.Given as goal

abbrev pub decreases-loop-job : goal.decreases-loop-job
decreases-loop-job l = length l.machine.jobs.items

abbrev pub invariant-loop-job : goal.invariant-loop-job
invariant-loop-job l = record {
  means : (K : Run) (k : ℕ) → IsRun K l.facts → Settled K k (data_of K.over l.initial.machine) l.top → Settled K k (data_of K.over l.machine) l.top;
  frames : l.machine.frames.items ≡ l.initial.machine.frames.items;
  kept : l.machine.kept ≡ l.initial.machine.kept;
  light : (sig : Signature) (vs : List RawTerm) → weights sig vs l.machine.jobs.items ≤ weights sig vs l.initial.machine.jobs.items;
}
