use Rattle.std.proofs.Common.{◌≡◌, ◌∙◌, ◌-◌, ◌++◌, ◌∷◌, [], List, drop, sym, subst, ap, append_assoc, arith}
use Rattle.mw_logic.specs.Term.{RawTerm}
use Rattle.mw_pattern.specs.Clean.{clean, clean_all}
use Rattle.mw_frames.specs.Arrivals.{StandsFor, StandForAll}
use Rattle.mw_frames.proofs.JobOrder.{one_more}
use Rattle.mw_frames.proofs.PartsWaiting.{stand_more}
use Rattle.mw_frames.proofs.coming.wait_made.Goals as goal

pub loop-left-preserved : goal.loop-left-preserved
loop-left-preserved c =
    let left = c.loop-left.left in
    let vs : List RawTerm = c.args.machine.now.kept.values in
    let inv = c.loop-left.invariant in
    let (xs, e, s) = inv.jobs in
    let (x, f, h) = c.in_ok-wait_one.ensures in
    let (d, t) = one_more c.slice-list.result.now 0 (left - 1) left c.index-list-left.result (omega arith) (omega arith) inv.bound c.index-list-left.is in
    let v : c.values.result.now ≡ vs = c.values.ensures ∙ ap (λ k. k.values) inv.keeps.kept in
    let one : StandsFor c.args.facts.now vs c.args.base c.args.top (clean c.index-list-left.result) x = subst (λ ws. StandsFor c.args.facts.now ws c.args.base c.args.top (clean c.index-list-left.result) x) v h in
    record {
      bound = omega (arith, inv.bound);
      keeps = record { frames = inv.keeps.frames; kept = inv.keeps.kept };
      done = inv.done;
      jobs = (
        xs ++ x ∷ [],
        f ∙ ap (λ ys. ys ++ x ∷ []) e ∙ append_assoc c.args.machine.now.jobs.items xs (x ∷ []),
        subst (λ ps. StandForAll c.args.facts.now vs c.args.base c.args.top ps (xs ++ x ∷ [])) (sym (ap clean_all d))
            (stand_more c.args.facts.now vs c.args.base c.args.top (clean c.index-list-left.result) x (clean_all (drop left c.slice-list.result.now)) xs one s),
      );
    }
