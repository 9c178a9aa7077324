use Rattle.std.proofs.Common.{◌≡◌, ◌∙◌, ◌-◌, List, drop, sym, subst, ap, arith}
use Rattle.mw_logic.specs.Term.{RawTerm, cons, nil}
use Rattle.mw_logic.specs.Terms.{terms_of}
use Rattle.mw_frames.specs.declared.job.Job.TheVariants.{Walk}
use Rattle.mw_frames.specs.Jobs.{sizes}
use Rattle.mw_frames.specs.State.{IsJob}
use Rattle.mw_frames.specs.Arrivals.{Joins}
use Rattle.mw_frames.proofs.JobOrder.{one_more, joins_then}
use Rattle.mw_frames.proofs.waiting.wait_terms.Goals as goal

pub loop-left-preserved : goal.loop-left-preserved
loop-left-preserved c =
    let ts : List RawTerm = c.args.terms.now in
    let left = c.loop-left.left in
    let t : RawTerm = c.in_ok-term.term in
    let (d, s) = one_more ts 0 (left - 1) left c.index-terms-left.result (omega arith) (omega arith) c.loop-left.invariant.bound c.index-terms-left.is in
    let e : terms_of (drop (left - 1) ts) ≡ cons t (terms_of (drop left ts)) = ap terms_of d ∙ ap (λ u. cons u (terms_of (drop left ts))) (sym c.in_ok-term.ensures) in
    record {
      bound = omega (arith, c.loop-left.invariant.bound);
      joins = λ sig vs.
          subst (λ us. Joins sig vs c.args.comm c.args.waits us (λ M n. Unit {0}) c.args.jobs.now.items c.wait_job.new.jobs.items) (sym e)
          (joins_then sig vs c.args.comm c.args.waits (terms_of (drop left ts)) (cons t nil) (λ M n. Unit {0}) (λ M n. IsJob M n vs (Walk t)) (λ M n. Unit {0}) c.args.jobs.now.items c.loop-left.jobs.items c.wait_job.new.jobs.items
          (λ M n x. x) (λ M n x. tt) (c.loop-left.invariant.joins sig vs) (c.in_ok-wait_job.ensures.joins sig vs tt));
      weight = λ sig vs. let a = c.loop-left.invariant.weight sig vs in let b = c.in_ok-wait_job.ensures.weight sig vs in let k = ap sizes e in omega (arith, a, b, k);
    }

pub returns-clause-joins : goal.returns-clause-joins
returns-clause-joins c = λ sig vs.
    let none : c.loop-left.left ≡ 0 = omega arith in
    subst (λ i. Joins sig vs c.args.comm c.args.waits (terms_of (drop i c.args.terms.now)) (λ M n. Unit {0}) c.args.jobs.now.items c.loop-left.jobs.items) none (c.loop-left.invariant.joins sig vs)
