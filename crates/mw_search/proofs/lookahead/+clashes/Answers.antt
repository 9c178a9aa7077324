use Rattle.std.proofs.Common.{◌≡◌, ◌∙◌, ◌<◌, ◌≤◌, List, [], ◌∷◌, length, get_or, arith, ap, refl, subst, sym}
use Rattle.std.proofs.lemmas.Bool.{not-true}
use Rattle.mw_logic.specs.Term.{RawTerm, Variable}
use Rattle.mw_term.specs.Shapes.{viewed}
use Rattle.mw_logic.specs.NormalForm.{height, highest}
use Rattle.mw_logic.specs.Terms.{terms_of}
use Rattle.mw_term.proofs.Terms.{element}
use Rattle.mw_search.specs.Clashes.{Clash, OrdersClash}
use Rattle.mw_search.proofs.Clashing.{all_clash, in_orders, value_clash, two_items}
use Rattle.mw_search.proofs.lookahead.+clashes.Goals as goal

pub some_clash-clashes-requires : goal.some_clash-clashes-requires
some_clash-clashes-requires t c =
    let l : c.loop-i.i < length c.args.patterns.now = omega arith in
    let h : height (get_or c.args.patterns.now c.loop-i.i c.index-patterns-i.result) ≤ highest (terms_of c.args.patterns.now) = element _ _ _ l in
    let e : height c.index-patterns-i.result ≡ height (get_or c.args.patterns.now c.loop-i.i c.index-patterns-i.result) = ap height c.index-patterns-i.is in
    (omega (arith, h, e, c.decreases), tt)

pub some_clash-returns-then-clashes : goal.some_clash-returns-then-clashes
some_clash-returns-then-clashes t c =
    let clash : Clash c.args.facts.now c.args.values.now c.index-patterns-i.result c.index-terms-i.result = c.clashes.ensures c.if-clashes.true in
    λ _. all_clash c.args.facts.now c.args.values.now c.args.patterns.now c.args.terms.now c.loop-i.i c.index-patterns-i.result c.index-terms-i.result (omega arith) (omega arith) c.index-patterns-i.is c.index-terms-i.is clash

pub clashes-returns-in-Some : goal.clashes-returns-in-Some
clashes-returns-in-Some t c = λ w.
    let sig = c.args.facts.now in
    let vs = c.args.values.now in
    let k = c.in-Some.ensures.lookup in
    let is = c.view.ensures ∙ ap viewed c.in-Var.is in
    let e : c.in-Var.x.now.sort ≡ c.x.inside.sort = ap (λ (y : Variable). y.sort) (sym c.x.view_is) in
    let l : c.x.inside.sort < length vs = k.3.0 in
    subst (λ (p : RawTerm). Clash sig vs p c.args.term.now) (sym is)
    (value_clash sig vs c.in-Var.x.now c.in-Some.value.now c.args.term.now (omega (arith, e, l)) (k.1 ∙ ap (λ n. get_or vs n c.in-Some.value.now) (sym e)) (sym c.is_same.ensures ∙ not-true c.is_same.result w))

pub orders_clash-returns-then-pair_clashes : goal.orders_clash-returns-then-pair_clashes
orders_clash-returns-then-pair_clashes t c = λ w.
    let sig = c.args.facts.now in
    let vs = c.args.values.now in
    let p = c.p-item.result in
    let q = c.q-item.result in
    let x = c.x-item.result in
    let y = c.y-item.result in
    let ps : c.args.patterns.now ≡ p ∷ q ∷ [] = two_items c.args.patterns.now p q c.in-len2.len_at_least c.in-len2.len_below c.p-item.is c.q-item.is in
    let ts : c.args.terms.now ≡ x ∷ y ∷ [] = two_items c.args.terms.now x y c.in-len2-terms.len_at_least c.in-len2-terms.len_below c.x-item.is c.y-item.is in
    subst (λ (us : List RawTerm). OrdersClash sig vs (terms_of us) (terms_of c.args.terms.now)) (sym ps)
    (subst (λ (us : List RawTerm). OrdersClash sig vs (terms_of (p ∷ q ∷ [])) (terms_of us)) (sym ts)
    (in_orders sig vs p q x y (c.pair_clashes.ensures c.if-pair_clashes.true) (c.pair_clashes-then-pair_clashes.ensures w)))

pub pair_clashes-returns-else-clashes : goal.pair_clashes-returns-else-clashes
pair_clashes-returns-else-clashes t c = λ w.
    all_clash c.args.facts.now c.args.values.now (c.args.p.now ∷ c.args.q.now ∷ []) (c.args.x.now ∷ c.args.y.now ∷ []) 1 c.args.q.now c.args.y.now (omega arith) (omega arith) refl refl (c.clashes-else-clashes.ensures w)
