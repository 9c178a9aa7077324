use Rattle.std.proofs.Common.{◌≡◌, sym, subst}
use Rattle.mw_logic.specs.Term.{RawTerm}
use Rattle.mw_frames.specs.State.{IsRun}
use Rattle.mw_frames.specs.Machines.{data_of}
use Rattle.mw_frames.specs.Steps.{asked_term}
use Rattle.mw_frames.specs.Fires.{IsPartTaken}
use Rattle.mw_reduce.specs.Turns.{IsMetAt}
use Rattle.mw_reduce.proofs.Applying.{row_applies}
use Rattle.mw_reduce.proofs.drive.meet_rows.Goals as goal

pub returns-in-Some : goal.returns-in-Some
returns-in-Some c = λ K k run here some met side.
    let (a, b, asked) = rw c.in-Some.is at (c.in_ok-term.ensures K k run here met.asked) in
    (a, b, asked.holds)

pub returns : goal.returns
returns c = λ K k run here some met side.
    let same : c.join_some.new.machine ≡ c.args.machine.now = rw c.in-None.is at (c.in_ok-term.ensures K k run here met.asked) in
    let now : IsMetAt K k (data_of K.over c.join_some.new.machine) c.args.asked c.args.take.now c.args.to =
    subst (λ m. IsMetAt K k (data_of K.over m) c.args.asked c.args.take.now c.args.to) (sym same) met in
    let t : RawTerm = asked_term (data_of K.over c.join_some.new.machine) c.args.asked in
    let (w, part, row) = row_applies K.over run.accepted K.rank t c.args.take.now c.args.to now.given in
    let run' : IsRun K c.facts.result.now = rw c.facts.ensures run in
    c.after.ensures K k side c.args.left (data_of K.over c.meet.new.machine) some
    (c.in_ok-fired-in-None.ensures K k w run' now.asked (subst (λ s. IsPartTaken s c.args.take.now t w) run'.signature part) row)
