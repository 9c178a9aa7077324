use Rattle.std.proofs.Common.{◌≡◌, ◌∙◌, sym, ap, arith, true}
use Rattle.std.proofs.lemmas.Result.{on_ok_weaker}
use Rattle.mw_logic.specs.Term.{RawTerm, cons, nil}
use Rattle.mw_frames.specs.declared.job.Job.TheVariants.{Try}
use Rattle.mw_frames.specs.Jobs.{sizes}
use Rattle.mw_frames.specs.State.{IsKnown, IsJob}
use Rattle.mw_stack.specs.Own.{spread}
use Rattle.mw_frames.proofs.Values.{size_least}
use Rattle.mw_frames.proofs.Arriving.{pieces_given, none_given, term_waits, term_settles, sure_done, known_arguments, pieces_done}
use Rattle.mw_frames.proofs.coming.settle_value.Goals as goal
use Rattle.mw_frames.proofs.coming.settle_value.Goals.{then-is_sure-via-then-is_sure, then-is_sure-via-else-is_sure+then-is_some}

pub returns-then-is_sure-clause-comes : goal.returns-then-is_sure-clause-comes
returns-then-is_sure-clause-comes c = λ vs comm.
    let f = c.args.frame in
    let t : RawTerm = c.args.value in
    term_settles c.put_near.result c.args.facts.now vs f t (λ M n. IsKnown M n c.args.top t) c.args.machine.now.done.items c.put_near.new.done.items c.args.machine.now.jobs.items comm c.put_near.ensures.below c.put_near.ensures.own
    (λ M n over k. (
      elim c.then-is_sure.branch [
        | then-is_sure-via-then-is_sure w ↦ sure_done M n over.accepted over.sorted c.args.top t k f.op (sym w.if-is_sure.ensures)
        | then-is_sure-via-else-is_sure+then-is_some w ↦
            let (ts, a, b) = pieces_given (spread c.args.facts.now f.op t) f.op t w.pieces.result (sym w.if-is_some.ensures) w.pieces.ensures.spread w.pieces.ensures.own in
            pieces_done M n over.accepted over.sorted c.args.top t k f.op ts b (ap (λ s. spread s f.op t) over.signature ∙ a)
      ],
      k.canonical,
    ))

pub returns-clause-comes : goal.returns-clause-comes
returns-clause-comes c = λ vs comm.
    let f = c.args.frame in
    let t : RawTerm = c.args.value in
    let alone : spread c.args.facts.now f.op t ≡ cons t nil = none_given c.pieces.result (sym c.if-is_some.ensures) c.pieces.ensures.alone in
    on_ok_weaker c.wait_job.result
    (term_waits c.args.facts.now vs f true t (cons t nil) (λ M n. IsJob M n vs (Try t)) (λ M n. IsKnown M n c.args.top t) c.args.machine.now.done.items c.args.machine.now.jobs.items c.wait_job.new.jobs.items comm alone
    (λ M n over k. (known_arguments M n over.accepted over.sorted c.args.top t k, k.canonical)))
    (c.wait_job.ensures.joins c.args.facts.now vs tt)

pub returns-clause-weight : goal.returns-clause-weight
returns-clause-weight c = λ vs.
    let t : RawTerm = c.args.value in
    let alone : spread c.args.facts.now c.args.frame.op t ≡ cons t nil = none_given c.pieces.result (sym c.if-is_some.ensures) c.pieces.ensures.alone in
    let s = ap sizes alone in
    let l = size_least t in
    on_ok_weaker c.wait_job.result (λ e. omega (arith, e, s, l)) (c.wait_job.ensures.weight c.args.facts.now vs)
