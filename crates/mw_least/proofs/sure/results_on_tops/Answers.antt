use Rattle.std.proofs.Common.{ℕ, List, [], ◌∷◌, ◌++◌, subst, sym, append_assoc}
use Rattle.std.proofs.lemmas.List.{append-nil}
use Rattle.mw_least.specs.Sure.{AreResults}
use Rattle.mw_least.proofs.Tops.{results_more, results_none}
use Rattle.mw_least.proofs.sure.results_on_tops.Goals as goal

pub loop-rest-preserved : goal.loop-rest-preserved
loop-rest-preserved c = λ Rs r.
    let pairs = c.args.order.now.pairs in
    let tops = c.args.tops.now in
    let os = c.args.operators.now in
    let R = c.support.result in
    let more = results_more pairs tops c.loop-rest.rest.now c.operator-item.result _ R Rs c.in-len1-up.len_at_least c.operator-item.is c.support.ensures r in
    let all = c.loop-rest.invariant (R ∷ Rs) more in
    subst (λ (xs : List ℕ). AreResults pairs tops os (xs ++ Rs)) (sym c.in_ok-push.ensures.items)
    (subst (AreResults pairs tops os) (sym (append_assoc c.loop-rest.results.items (R ∷ []) Rs)) all)

pub returns : goal.returns
returns c =
    let pairs = c.args.order.now.pairs in
    let tops = c.args.tops.now in
    let os = c.args.operators.now in
    let all = c.loop-rest.invariant [] (results_none pairs tops c.loop-rest.rest.now c.in_default.len_below) in
    subst (AreResults pairs tops os) (sym c.of.ensures) (subst (AreResults pairs tops os) (append-nil c.loop-rest.results.items) all)
