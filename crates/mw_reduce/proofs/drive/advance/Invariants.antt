use Rattle.std.proofs.Common.{◌≡◌, ℕ}
use Rattle.mw_frames.specs.State.{Run, IsRun}
use Rattle.mw_frames.specs.Machines.{data_of}
use Rattle.mw_reduce.specs.Events.{IsEvent, EventOf}
use Rattle.mw_reduce.proofs.LessLeft.{left_of}
use Rattle.mw_reduce.proofs.drive.advance.Given as goal

abbrev pub invariant-loop-event : goal.invariant-loop-event
invariant-loop-event l =
    EventOf l.context l.event
    × ((K : Run) (k side : ℕ) → IsRun K l.context.signature → K.over ≡ l.context → IsEvent K k side l.index (data_of K.over l.fn.machine) l.fn.choices l.fn.event → IsEvent K k side l.index (data_of K.over l.machine) l.choices l.event)

abbrev pub decreases-loop-event : goal.decreases-loop-event
decreases-loop-event l = left_of l.context l.machine l.event
