use Rattle.std.proofs.Common.{◌∙◌, List, sym, ap, arith, false}
use Rattle.std.proofs.lemmas.Result.{on_ok_weaker}
use Rattle.mw_logic.specs.Term.{RawTerm, cons, nil}
use Rattle.mw_logic.specs.Terms.{terms_of}
use Rattle.mw_logic.proofs.Canonical.{Each}
use Rattle.mw_frames.specs.declared.job.Job.{Job}
use Rattle.mw_frames.specs.Jobs.{term_of, sizes}
use Rattle.mw_frames.specs.State.{IsNormalHere, IsKnown, IsJob}
use Rattle.mw_frames.proofs.Values.{size_least}
use Rattle.mw_frames.proofs.Arriving.{term_waits, pieces_normal}
use Rattle.mw_frames.proofs.coming.line_value.Goals as goal

pub returns-in-Some-clause-comes : goal.returns-in-Some-clause-comes
returns-in-Some-clause-comes c = λ vs comm.
    let f = c.args.frame in
    let t : RawTerm = c.args.value in
    let ts : List RawTerm = c.in-Some.elements.now in
    on_ok_weaker c.wait_normal.result
    (term_waits c.args.facts.now vs f false t (terms_of ts) (λ M n. Each (IsNormalHere M n) (terms_of ts)) (λ M n. IsKnown M n c.args.top t) c.args.machine.now.done.items c.args.machine.now.jobs.items c.wait_normal.new.jobs.items comm
    c.in-Some.ensures.spread
    (λ M n over k. (pieces_normal M n over.accepted over.sorted c.args.top t k f.op ts c.in-Some.ensures.own, k.canonical)))
    (c.wait_normal.ensures.joins c.args.facts.now vs f.waits)

pub returns-in-None-clause-comes : goal.returns-in-None-clause-comes
returns-in-None-clause-comes c = λ vs comm.
    let f = c.args.frame in
    let t : RawTerm = c.args.value in
    let x : Job = c.job_of.result in
    on_ok_weaker c.wait_job.result
    (term_waits c.args.facts.now vs f false t (cons (term_of c.args.facts.now vs x) nil) (λ M n. IsJob M n vs x) (λ M n. IsKnown M n c.args.top t) c.args.machine.now.done.items c.args.machine.now.jobs.items c.wait_job.new.jobs.items comm
    (c.in-None.ensures.alone ∙ ap (λ u. cons u nil) (sym (c.job_of.ensures.term c.args.facts.now vs)))
    (λ M n over k. (c.job_of.ensures.known M n vs over.accepted over.sorted k, k.canonical)))
    (c.wait_job.ensures.joins c.args.facts.now vs c.job_of.ensures.at_hand)

pub returns-in-None-clause-weight : goal.returns-in-None-clause-weight
returns-in-None-clause-weight c = λ vs.
    let s = ap sizes c.in-None.ensures.alone in
    let l = size_least c.args.value in
    let w = c.job_of.ensures.light c.args.facts.now vs in
    on_ok_weaker c.wait_job.result (λ e. omega (arith, e, s, l, w)) (c.wait_job.ensures.weight c.args.facts.now vs)
