use Rattle.std.proofs.Common.{◌∙◌, sym, ap, arith}
use Rattle.std.proofs.lemmas.Result.{on_ok_weaker}
use Rattle.mw_logic.specs.Term.{RawTerm, cons, nil}
use Rattle.mw_logic.specs.Terms.{terms_of}
use Rattle.mw_pattern.specs.Clean.{clean}
use Rattle.mw_frames.specs.declared.job.Job.{Job}
use Rattle.mw_frames.specs.Jobs.{term_of, size, sizes}
use Rattle.mw_frames.specs.State.{IsKnownIn, IsJob}
use Rattle.mw_frames.specs.Arrivals.{StandsFor}
use Rattle.mw_frames.proofs.PartsWaiting.{instance_canonical}
use Rattle.mw_frames.proofs.Arriving.{term_waits}
use Rattle.mw_frames.proofs.coming.wait_built.Goals as goal

pub returns-in-Some-clause-comes : goal.returns-in-Some-clause-comes
returns-in-Some-clause-comes c = λ vs is.
    let f = c.args.frame in
    let t : RawTerm = c.args.term in
    let p : RawTerm = clean c.args.pattern.now in
    on_ok_weaker c.wait_terms.result
    (term_waits c.args.facts.now vs f c.is_commutative-comm.result t (terms_of c.in-Some.elements.now) (λ M n. Unit {0}) (λ M n. IsKnownIn M n vs c.args.base c.args.top p)
    c.args.machine.now.done.items c.args.machine.now.jobs.items c.wait_terms.new.jobs.items (sym c.is_commutative-comm.ensures) c.in-Some.ensures.spread
    (λ M n over k. (tt, instance_canonical c.args.facts.now M n over vs c.args.base c.args.top p t is k)))
    (c.wait_terms.ensures.joins c.args.facts.now vs)

pub returns-in-Some-clause-weight : goal.returns-in-Some-clause-weight
returns-in-Some-clause-weight c = λ vs is.
    let s = ap sizes c.in-Some.ensures.spread in
    on_ok_weaker c.wait_terms.result (λ e. omega (arith, e, s)) (c.wait_terms.ensures.weight c.args.facts.now vs)

pub returns-in-None-clause-comes : goal.returns-in-None-clause-comes
returns-in-None-clause-comes c = λ vs is.
    let f = c.args.frame in
    let t : RawTerm = c.args.term in
    let p : RawTerm = clean c.args.pattern.now in
    let x : Job = c.built_job.result in
    let st : StandsFor c.args.facts.now vs c.args.base c.args.top p x = c.built_job.ensures.stands c.args.facts.now vs is in
    on_ok_weaker c.wait_job.result
    (term_waits c.args.facts.now vs f c.is_commutative-comm.result t (cons (term_of c.args.facts.now vs x) nil) (λ M n. IsJob M n vs x) (λ M n. IsKnownIn M n vs c.args.base c.args.top p)
    c.args.machine.now.done.items c.args.machine.now.jobs.items c.wait_job.new.jobs.items (sym c.is_commutative-comm.ensures)
    (c.in-None.ensures.alone ∙ ap (λ u. cons u nil) (is ∙ sym st.term))
    (λ M n over k. (st.known M n over k, instance_canonical c.args.facts.now M n over vs c.args.base c.args.top p t is k)))
    (c.wait_job.ensures.joins c.args.facts.now vs c.built_job.ensures.at_hand)

pub returns-in-None-clause-weight : goal.returns-in-None-clause-weight
returns-in-None-clause-weight c = λ vs is.
    let s = ap sizes c.in-None.ensures.alone in
    let z = ap size is in
    let w = (c.built_job.ensures.stands c.args.facts.now vs is).light in
    on_ok_weaker c.wait_job.result (λ e. omega (arith, e, s, z, w)) (c.wait_job.ensures.weight c.args.facts.now vs)
