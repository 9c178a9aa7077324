use Rattle.std.proofs.Common.{◌≡◌, ◌∙◌, ◌<◌, ◌≤◌, ◌+◌, suc, length, ap, subst, sym}
use Rattle.mw_logic.specs.Signature.{Signature, Operator}
use Rattle.mw_poset.specs.SortOrder.{SortOrder}
use Rattle.mw_poset.specs.Order.{IsSort, IsKindOf}
use Rattle.mw_sorts.proofs.Getting.{read-get}
use Rattle.mw_least.specs.Sure.{IsNone, IsSupportedIn}
use Rattle.mw_least.proofs.Tops.{supported_more, supported_all, supported_in}
use Rattle.mw_least.proofs.sure.partial_operators.Goals.{then-not-is_supported+in_ok-number_at, else-not-is_supported}
use Rattle.mw_least.proofs.sure.partial_operators.Goals as goal

pub kind_of-kind-requires : goal.kind_of-kind-requires
kind_of-kind-requires c =
    let os = (c.as_slice-operator-items.ensures ∙ ap (λ (s : Signature). s.operators) c.signature.view_is) in
    let is = read-get c.args.signature.now.operators c.as_slice-operator-items.result.now c.loop-index.index c.operator-item.result os (subst (λ xs. c.loop-index.index < length xs) os c.loop-index-test.true) c.operator-item.is in
    let there = c.requires.numbers.results (suc c.loop-index.index) c.operator-item.result is in
    let sorts = subst (λ k. IsSort k c.operator-item.result.result) (ap (λ (s : SortOrder). s.sorts) (sym c.requires.order)) there in
    subst (λ S. IsSort c.args.order.now.sorts S) (ap (λ (p : Operator). p.result) (sym c.operator.view_is)) sorts

pub loop-index-preserved : goal.loop-index-preserved
loop-index-preserved c =
    let sig = c.args.signature.now in
    let n = c.loop-index.index in
    let o = c.operator-item.result in
    let tops = c.args.tops.now in
    let before = c.loop-index.partial in
    let after = c.if-not-is_supported.partial in
    let os = (c.as_slice-operator-items.ensures ∙ ap (λ (s : Signature). s.operators) c.signature.view_is) in
    let is = read-get sig.operators c.as_slice-operator-items.result.now n o os (subst (λ xs. n < length xs) os c.loop-index-test.true) c.operator-item.is in
    let pairs : c.args.order.now.pairs ≡ sig.pairs = ap (λ (s : SortOrder). s.pairs) c.requires.order in
    let kind = subst (λ S. IsKindOf c.args.order.now.pairs S c.kind_of-kind.result) (ap (λ (p : Operator). p.result) c.operator.view_is) c.kind_of-kind.ensures in
    elim c.if-not-is_supported.branch [
      | then-not-is_supported+in_ok-number_at w ↦
          supported_more sig tops n o before after is (λ f h. w.with-partial.ensures.more f (subst (λ s. IsNone s f) w.partial-is h))
          (λ h. absurd (w.with-partial.ensures.last (subst (λ f. IsNone w.with-partial.result f) (sym w.in_ok-number_at.ensures) (subst (λ s. IsNone s (n + 1)) w.partial-is h)))) c.loop-index.invariant
      | else-not-is_supported w ↦
          let here = subst (λ ps. IsSupportedIn ps tops o c.kind_of-kind.result) pairs (c.is_supported.ensures w.if-not-is_supported.false) in
          let all = supported_in sig tops o c.kind_of-kind.result (subst (λ ps. IsKindOf ps o.result c.kind_of-kind.result) pairs kind) here in
          supported_more sig tops n o before after is (λ f h. subst (λ s. IsNone s f) w.partial-is h) (λ h. all) c.loop-index.invariant
    ]

pub returns : goal.returns
returns c =
    let sig = c.args.signature.now in
    let os = (c.as_slice-operator-items.ensures ∙ ap (λ (s : Signature). s.operators) c.signature.view_is) in
    supported_all sig c.args.tops.now c.loop-index.index c.loop-index.partial (subst (λ xs. length xs ≤ c.loop-index.index) os c.loop-index-test.false) c.loop-index.invariant
