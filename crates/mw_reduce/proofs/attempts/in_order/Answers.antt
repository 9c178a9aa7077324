use Rattle.std.proofs.Common.{◌++◌, ◌∙◌, [], ◌∷◌, ap}
use Rattle.mw_reduce.proofs.Ordering.{with_one, without_one}
use Rattle.mw_reduce.proofs.attempts.in_order.Goals as goal
use Rattle.mw_reduce.proofs.attempts.in_order.Goals.{in-Some+in_ok-copy-in-Some+in_ok-push-in-Some, in-None}

pub loop-place-preserved : goal.loop-place-preserved
loop-place-preserved c =
    let us = c.args.terms.now in
    let ns = c.args.places.now in
    let i = c.loop-place.place-index in
    let vs = c.loop-place.values.items in
    elim c.match-get.branch [
      | in-Some+in_ok-copy-in-Some+in_ok-push-in-Some w ↦
          let (a, b, d, e, f) = c.get.ensures.lookup in
          let (k, there) = rw w.in-Some.is at e in
          let u = w.in-Some.term.now in
          ap (λ v. v.items) w.values-is ∙ w.in_ok-push-in-Some.ensures.items ∙ ap (λ t. vs ++ t ∷ []) w.in_ok-copy-in-Some.ensures ∙ with_one us ns i vs u c.loop-place-test.true c.loop-place.invariant k (there u)
      | in-None w ↦
          let (a, b, d, e, f) = c.get.ensures.lookup in
          ap (λ v. v.items) w.values-is ∙ without_one us ns i vs c.loop-place-test.true c.loop-place.invariant (rw w.in-None.is at e)
    ]
