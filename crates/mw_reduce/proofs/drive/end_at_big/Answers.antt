use Rattle.std.proofs.Common.{inr}
use Rattle.mw_frames.specs.Machines.{data_of}
use Rattle.mw_frames.specs.Steps.{asked_term}
use Rattle.mw_reduce.proofs.Applying.{big_taken}
use Rattle.mw_reduce.proofs.drive.end_at_big.Goals as goal

pub returns : goal.returns
returns c = λ K k run h side.
    let b = h.big in
    let part = big_taken K.over.signature (asked_term (data_of K.over c.args.machine.now) c.args.asked) c.args.take.now b in
    let (z, p) = c.in_ok-term.ensures K k b.is_form.part b.form run h.asked (rw run.signature at part) b.is_form.raw b.is_form.clean b.is_form.is in
    (z, inr (record { context = p.0; pair = b.form; is_part = p.1; too_big = b.too_big }))
