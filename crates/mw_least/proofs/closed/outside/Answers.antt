use Rattle.std.proofs.Common.{◌≡◌, ◌∙◌, ◌<◌, ◌≤◌, ◌+◌, length, ap, subst, sym}
use Rattle.mw_logic.specs.Signature.{Signature}
use Rattle.mw_poset.specs.SortOrder.{SortOrder}
use Rattle.mw_sorts.proofs.Getting.{read-get}
use Rattle.mw_least.specs.Sure.{IsNone}
use Rattle.mw_least.specs.Closed.{IsClosedFor}
use Rattle.mw_least.proofs.Homes.{closed_more, closed_all}
use Rattle.mw_least.proofs.closed.outside.Goals.{then-is_outside+in_ok-number_at, else-is_outside}
use Rattle.mw_least.proofs.closed.outside.Goals as goal

pub loop-index-preserved : goal.loop-index-preserved
loop-index-preserved c =
    let sig = c.args.signature.now in
    let n = c.loop-index.index in
    let o = c.operator-item.result in
    let S = c.args.sort in
    let before = c.loop-index.outside in
    let after = c.if-is_outside.outside in
    let os = (c.as_slice-operator-items.ensures ∙ ap (λ (s : Signature). s.operators) c.signature.view_is) in
    let is = read-get sig.operators c.as_slice-operator-items.result.now n o os (subst (λ xs. n < length xs) os c.loop-index-test.true) c.operator-item.is in
    let pairs : c.args.order.now.pairs ≡ sig.pairs = ap (λ (s : SortOrder). s.pairs) c.requires.order in
    elim c.if-is_outside.branch [
      | then-is_outside+in_ok-number_at w ↦
          closed_more sig S n o before after is (λ f h. w.with-outside.ensures.more f (subst (λ s. IsNone s f) w.outside-is h))
          (λ k h. absurd (w.with-outside.ensures.last (subst (λ f. IsNone w.with-outside.result f) (sym w.in_ok-number_at.ensures) (subst (λ s. IsNone s (n + 1)) w.outside-is h)))) c.loop-index.invariant
      | else-is_outside w ↦
          let here = c.is_outside.ensures w.if-is_outside.false sig (sym pairs) in
          closed_more sig S n o before after is (λ f h. subst (λ s. IsNone s f) w.outside-is h) (λ k h. subst (λ ps. IsClosedFor ps o S) pairs (here k)) c.loop-index.invariant
    ]

pub returns : goal.returns
returns c =
    let os = (c.as_slice-operator-items.ensures ∙ ap (λ (s : Signature). s.operators) c.signature.view_is) in
    closed_all c.args.signature.now c.args.sort c.loop-index.index c.loop-index.outside (subst (λ xs. length xs ≤ c.loop-index.index) os c.loop-index-test.false) c.loop-index.invariant
