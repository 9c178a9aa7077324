use Rattle.std.proofs.Common.{arith}
use Rattle.mw_frames.specs.Machines.{data_of, StaysFrom}
use Rattle.mw_frames.proofs.Falling.{falls_more}
use Rattle.mw_frames.proofs.stepping.over_choice.Goals as goal

pub returns-in-Some-2-clause-means : goal.returns-in-Some-2-clause-means
returns-in-Some-2-clause-means c = λ K k run schemata choice s. rw c.in-Some-2.is at (c.in_ok-hand.ensures.means K k run s)

pub returns-clause-falls : goal.returns-clause-falls
returns-clause-falls c = λ M.
    let h : StaysFrom M c.args.top (data_of M c.args.machine.now) c.pass_one.new.machine = rw c.in_default-2.is at (c.in_ok-hand.ensures.falls M) in
    falls_more M _ _ c.over.new.machine c.in_ok-step.step (omega (arith, h)) (c.in_ok-step.ensures.falls M)
