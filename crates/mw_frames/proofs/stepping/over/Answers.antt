use Rattle.std.proofs.Common.{arith}
use Rattle.mw_frames.specs.Machines.{data_of, StaysFrom}
use Rattle.mw_frames.proofs.Falling.{falls_more}
use Rattle.mw_frames.proofs.stepping.over.Goals as goal

pub returns-in-Some-clause-means : goal.returns-in-Some-clause-means
returns-in-Some-clause-means c = λ K k run s. rw c.in-Some.is at (c.in_ok-hand.ensures.means K k run s)

pub returns-in_ok-step-in-None-clause-means : goal.returns-in_ok-step-in-None-clause-means
returns-in_ok-step-in-None-clause-means c = λ K k run s. let h = rw c.in-None.is at (c.in_ok-hand.ensures.means K k run s) in c.in_ok-step-in-None.ensures.means K k run h.1 h.0

pub returns-in_ok-step-in-None-clause-falls : goal.returns-in_ok-step-in-None-clause-falls
returns-in_ok-step-in-None-clause-falls c = λ M.
    let h : StaysFrom M c.args.top (data_of M c.args.machine.now) c.pass.new.machine = rw c.in-None.is at (c.in_ok-hand.ensures.falls M) in
    falls_more M _ _ c.all_done.new.machine c.in_ok-step-in-None.step (omega (arith, h)) (c.in_ok-step-in-None.ensures.falls M)
