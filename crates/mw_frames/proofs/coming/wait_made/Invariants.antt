use Rattle.std.proofs.Common.{◌≡◌, ◌≤◌, ◌++◌, List, drop, length}
use Rattle.mw_pattern.specs.Clean.{clean_all}
use Rattle.mw_frames.specs.declared.job.Job.{Job}
use Rattle.mw_frames.specs.Arrivals.{StandForAll, KeepsFrames}
use Rattle.mw_frames.proofs.coming.wait_made.Given as goal

abbrev pub decreases-loop-left : goal.decreases-loop-left
decreases-loop-left l = l.left

abbrev pub invariant-loop-left : goal.invariant-loop-left
invariant-loop-left l = record {
  bound : l.left ≤ length l.list;
  keeps : KeepsFrames l.initial.machine l.machine;
  done : l.machine.done.items ≡ l.initial.machine.done.items;
  jobs : (xs : List Job) × (l.machine.jobs.items ≡ l.initial.machine.jobs.items ++ xs) × StandForAll l.facts l.initial.machine.kept.values l.base l.top (clean_all (drop l.left l.list)) xs;
}
