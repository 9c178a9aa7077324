use Rattle.std.proofs.Common.{◌≡◌, ◌-◌, ◌++◌, ◌∷◌, [], List, refl, drop, take, sym, subst, ap, ◌∙◌, arith}
use Rattle.mw_logic.specs.TermOrder.{sorted_terms}
use Rattle.mw_frames.specs.declared.job.Job.{Job}
use Rattle.mw_frames.specs.Jobs.{term_of, rest}
use Rattle.mw_frames.specs.State.{AreAtHand}
use Rattle.mw_frames.proofs.JobOrder.{cut, one_more, before_more, behind_all, AreAtHand-parts}
use Rattle.mw_frames.proofs.waiting.place_of_job.Goals as goal

pub returns-then-not-stands_before-clause-behind : goal.returns-then-not-stands_before-clause-behind
returns-then-not-stands_before-clause-behind c = λ sig vs h k o.
    let xs : List Job = c.args.jobs.now in
    let w = c.args.waits in
    let at = c.loop-at.at in
    let y : Job = c.index-jobs-at.result in
    let A : List Job = drop w (take (at - 1) xs) in
    let (d, s) = one_more xs w (at - 1) at y (omega arith) (omega arith) c.loop-at.invariant.bound c.index-jobs-at.is in
    let z : (A ++ y ∷ []) ++ drop at xs ≡ drop w xs = ap (λ ys. ys ++ drop at xs) (sym s) ∙ cut xs w at (omega arith) c.loop-at.invariant.bound in
    let a = AreAtHand-parts A (y ∷ []) (AreAtHand-parts (A ++ y ∷ []) (drop at xs) (subst AreAtHand (sym z) h)).0 in
    behind_all sig vs (term_of sig vs c.args.job.now) A (drop w (take at xs)) (drop at xs) y (subst (λ ys. sorted_terms (rest sig vs ys) ≡ rest sig vs ys) (sym z) o) s
    (c.if-not-stands_before.ensures.behind refl a.1.0 k sig vs)

pub loop-at-preserved : goal.loop-at-preserved
loop-at-preserved c =
    let at = c.loop-at.at in
    let y : Job = c.index-jobs-at.result in
    let (d, s) = one_more c.args.jobs.now c.args.waits (at - 1) at y (omega arith) (omega arith) c.loop-at.invariant.bound c.index-jobs-at.is in
    record {
      bound = omega (arith, c.loop-at.invariant.bound);
      within = λ l. omega arith;
      before = λ sig vs. before_more sig vs (term_of sig vs c.args.job.now) c.args.jobs.now (at - 1) at y d (c.if-not-stands_before.ensures.before refl sig vs) (c.loop-at.invariant.before sig vs);
    }
