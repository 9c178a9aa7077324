use Rattle.std.proofs.Common.{sym, subst}
use Rattle.mw_frames.specs.Machines.{data_of}
use Rattle.mw_frames.specs.State.{Holds, work_of}
use Rattle.mw_frames.specs.Steps.{FallsBelow}
use Rattle.mw_frames.proofs.stepping.step.Goals as goal

pub returns-then-is_choice-clause-means : goal.returns-then-is_choice-clause-means
returns-then-is_choice-clause-means c = λ K k run schemata h.
    c.in_ok-step-in-Over.ensures.means K k run schemata ((c.is_choice.ensures K.over.signature schemata).0 c.if-is_choice.true) (subst (Holds K k (data_of K.over c.args.machine.now)) c.in-Over.is h)

pub returns-then-is_choice-clause-falls : goal.returns-then-is_choice-clause-falls
returns-then-is_choice-clause-falls c = λ M e.
    subst (λ h. FallsBelow M (work_of M.signature (data_of M c.args.machine.now) h) c.over_choice.new.machine c.in_ok-step-in-Over.step) (sym c.in-Over.is) (c.in_ok-step-in-Over.ensures.falls M)

pub returns-in_ok-step-in-Over-2-clause-falls : goal.returns-in_ok-step-in-Over-2-clause-falls
returns-in_ok-step-in-Over-2-clause-falls c = λ M e.
    subst (λ h. FallsBelow M (work_of M.signature (data_of M c.args.machine.now) h) c.over.new.machine c.in_ok-step-in-Over-2.step) (sym c.in-Over.is) (c.in_ok-step-in-Over-2.ensures.falls M)

pub returns-in_ok-step-in-One-clause-falls : goal.returns-in_ok-step-in-One-clause-falls
returns-in_ok-step-in-One-clause-falls c = λ M e.
    subst (λ h. FallsBelow M (work_of M.signature (data_of M c.args.machine.now) h) c.one.new.machine c.in_ok-step-in-One.step) (sym c.in-One.is) (c.in_ok-step-in-One.ensures.falls M e)
