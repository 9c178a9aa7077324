use Rattle.std.proofs.Common.{sym, subst, ◌≡◌, ◌∙◌}
use Rattle.mw_logic.specs.Term.{RawTerm}
use Rattle.mw_logic.specs.Parts.{nested}
use Rattle.mw_deduction.specs.Replay.{whole}
use Rattle.mw_frames.specs.declared.job.Job.TheVariants.{Walk}
use Rattle.mw_frames.specs.Machines.{data_of}
use Rattle.mw_frames.specs.State.{InHand}
use Rattle.mw_frames.specs.Fires.{Refuses, IsFired, IsRefusedAs}
use Rattle.mw_frames.proofs.applying.refuse_part.Goals as goal

pub returns-clause-means : goal.returns-clause-means
returns-clause-means c = λ K b k w run is h refuses.
    let e : c.in_ok-part.part ≡ w = c.in_ok-part.ensures ∙ sym is in
    let P : RawTerm → Type 0 = λ u.
    (h : InHand K k (data_of K.over c.args.machine.now) (Walk u)) → ((t : RawTerm) → t ≡ whole K.over.signature h.stand.opens h.stand.hand → Refuses K b c.args.deep (nested K.over.signature t))
    → IsFired K b k (data_of K.over c.refuse.new.machine) c.in_ok-fired.fired in
    subst P e (c.in_ok-fired.ensures.means K b k run) h refuses

pub returns-clause-same : goal.returns-clause-same
returns-clause-same c = λ K k w run is h.
    let e : c.in_ok-part.part ≡ w = c.in_ok-part.ensures ∙ sym is in
    let P : RawTerm → Type 0 = λ u. (h : InHand K k (data_of K.over c.args.machine.now) (Walk u)) → IsRefusedAs (whole K.over.signature h.stand.opens h.stand.hand) c.in_ok-fired.fired in
    subst P e (c.in_ok-fired.ensures.same K k run) h
