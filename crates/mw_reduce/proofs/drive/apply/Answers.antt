use Rattle.std.proofs.Common.{◌≡◌, ◌∙◌, false, subst, sym, true≢false}
use Rattle.mw_frames.specs.Fires.{IsFired}
use Rattle.mw_frames.specs.Machines.{data_of}
use Rattle.mw_frames.specs.Steps.{asked_term}
use Rattle.mw_reduce.proofs.Applying.{applied_so}
use Rattle.mw_reduce.proofs.drive.apply.Goals as goal

pub returns : goal.returns
returns c = λ K k run h.
    let equation : c.applied-by.result.rule ≡ false = c.applied-by.ensures.rule ∙ h.equation in
    subst (λ b. IsFired K b k (data_of K.over c.fire.new.machine) c.in_ok-fired.fired) equation
    (c.in_ok-fired.ensures.means K k h.made.part run h.asked (rw run.signature at h.made.taken)
    (applied_so K.over K.rank (asked_term (data_of K.over c.args.machine.now) c.args.asked) c.args.choice c.args.sides.items h.made c.applied-by.result c.applied-by.ensures)
    (λ z. absurd (true≢false (sym z ∙ equation))))
