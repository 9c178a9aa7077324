use Rattle.std.proofs.Common.{◌≡◌, ◌∙◌, ◌-◌, List, drop, false, sym, subst, ap, arith}
use Rattle.mw_logic.specs.Term.{RawTerm, cons, nil}
use Rattle.mw_logic.specs.Terms.{terms_of}
use Rattle.mw_logic.proofs.Canonical.{Each}
use Rattle.mw_frames.specs.declared.job.Job.TheVariants.{Normal}
use Rattle.mw_frames.specs.Jobs.{sizes}
use Rattle.mw_frames.specs.State.{IsNormalHere, IsJob}
use Rattle.mw_frames.specs.Arrivals.{Joins}
use Rattle.mw_frames.proofs.JobOrder.{one_more, joins_then, joins_pushed, weights-pushed}
use Rattle.mw_frames.proofs.Values.{size_least}
use Rattle.mw_frames.proofs.coming.wait_normal.Goals as goal

pub loop-left-preserved : goal.loop-left-preserved
loop-left-preserved c =
    let ts : List RawTerm = c.args.terms.now in
    let left = c.loop-left.left in
    let t : RawTerm = c.in_ok-term.term in
    let (d, s) = one_more ts 0 (left - 1) left c.index-terms-left.result (omega arith) (omega arith) c.loop-left.invariant.bound c.index-terms-left.is in
    let e : terms_of (drop (left - 1) ts) ≡ cons t (terms_of (drop left ts)) = ap terms_of d ∙ ap (λ u. cons u (terms_of (drop left ts))) (sym c.in_ok-term.ensures) in
    record {
      bound = omega (arith, c.loop-left.invariant.bound);
      joins = λ sig vs w.
          subst (λ us. Joins sig vs false w us (λ M n. Each (IsNormalHere M n) us) c.args.jobs.now.items c.push.new.self.items) (sym e)
          (joins_then sig vs false w (terms_of (drop left ts)) (cons t nil) (λ M n. Each (IsNormalHere M n) (terms_of (drop left ts))) (λ M n. IsJob M n vs (Normal t)) (λ M n. Each (IsNormalHere M n) (cons t (terms_of (drop left ts))))
          c.args.jobs.now.items c.loop-left.jobs.items c.push.new.self.items (λ M n h. h.1) (λ M n h. h.0) (c.loop-left.invariant.joins sig vs w)
          (joins_pushed sig vs w (Normal t) c.loop-left.jobs.items c.push.new.self.items tt c.in_ok-push.ensures.items));
      weight = λ sig vs.
          let a = c.loop-left.invariant.weight sig vs in
          let b = weights-pushed sig vs (Normal t) c.loop-left.jobs.items c.push.new.self.items c.in_ok-push.ensures.items in
          let k = ap sizes e in
          let l = size_least t in omega (arith, a, b, k, l);
    }

pub returns-clause-joins : goal.returns-clause-joins
returns-clause-joins c = λ sig vs w.
    let none : c.loop-left.left ≡ 0 = omega arith in
    subst (λ i. Joins sig vs false w (terms_of (drop i c.args.terms.now)) (λ M n. Each (IsNormalHere M n) (terms_of (drop i c.args.terms.now))) c.args.jobs.now.items c.loop-left.jobs.items) none (c.loop-left.invariant.joins sig vs w)
