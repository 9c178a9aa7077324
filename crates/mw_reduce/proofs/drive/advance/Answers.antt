use Rattle.std.proofs.Common.{refl, subst, sym, ◌<◌}
use Rattle.mw_frames.specs.State.{work_of}
use Rattle.mw_frames.specs.Machines.{data_of}
use Rattle.mw_reduce.specs.Events.{IsEvent}
use Rattle.mw_reduce.proofs.LessLeft.{left_of, less_left}
use Rattle.mw_reduce.proofs.drive.advance.Goals as goal

pub loop-event-smaller : goal.loop-event-smaller
loop-event-smaller c =
    let M = c.args.context.now in
    let m = c.loop-event.machine in
    let n = c.take_turn.new.machine in
    let t = c.in_ok-event-in-Goes.event in
    subst (λ x. left_of M n t < left_of M m x) (sym c.in-Goes.is) (less_left M (work_of M.signature (data_of M m) c.in-Goes.hand) n t (c.in_ok-event-in-Goes.ensures.falls M refl))

pub loop-event-preserved : goal.loop-event-preserved
loop-event-preserved c = (
  c.in_ok-event-in-Goes.ensures.of,
  λ K k side run here h. c.in_ok-event-in-Goes.ensures.means K k side run here
      (subst (IsEvent K k side c.args.index.now (data_of K.over c.loop-event.machine) c.loop-event.choices) c.in-Goes.is (c.loop-event.invariant.1 K k side run here h)),
)
