use Rattle.std.proofs.Common.{◌≤◌, ◌+◌, drop, length}
use Rattle.mw_matching.specs.Matches.{evaluated_all}
use Rattle.mw_pattern.specs.Clean.{clean_all}
use Rattle.mw_frames.specs.Jobs.{sizes, nodes_in, weights}
use Rattle.mw_frames.specs.State.{AreKnownIn}
use Rattle.mw_frames.specs.Arrivals.{spread_all, Comes, KeepsFrames}
use Rattle.mw_frames.proofs.coming.wait_all.Given as goal

abbrev pub decreases-loop-left : goal.decreases-loop-left
decreases-loop-left l = l.left

abbrev pub invariant-loop-left : goal.invariant-loop-left
invariant-loop-left l = record {
  bound : l.left ≤ length l.list;
  keeps : KeepsFrames l.initial.machine l.machine;
  comes : Comes l.facts l.initial.machine.kept.values l.frame (spread_all l.facts l.frame.op (evaluated_all l.facts (drop l.base l.initial.machine.kept.values) (clean_all (drop l.left l.list))))
      (λ M n. AreKnownIn M n l.initial.machine.kept.values l.base l.top (clean_all (drop l.left l.list))) l.initial.machine.done.items l.machine.done.items l.initial.machine.jobs.items l.machine.jobs.items;
  weight : weights l.facts l.initial.machine.kept.values l.machine.jobs.items
      ≤ weights l.facts l.initial.machine.kept.values l.initial.machine.jobs.items + sizes (spread_all l.facts l.frame.op (evaluated_all l.facts (drop l.base l.initial.machine.kept.values) (clean_all (drop l.left l.list)))) + nodes_in (clean_all (drop l.left l.list));
}
