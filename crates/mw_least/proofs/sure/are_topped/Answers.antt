use Rattle.std.proofs.Common.{◌∙◌, ◌≡◌, ◌+◌, ◌≤◌, ℕ, refl, Some, ap, subst, sym}
use Rattle.mw_logic.specs.Signature.{Signature, at_number}
use Rattle.mw_logic.specs.Sorts.{AtOrBelow}
use Rattle.mw_poset.specs.SortOrder.{SortOrder}
use Rattle.mw_least.specs.Sure.{IsTop}
use Rattle.mw_least.proofs.Tops.{topped_more, topped_all}
use Rattle.mw_least.proofs.sure.are_topped.Goals as goal

pub loop-index-preserved : goal.loop-index-preserved
loop-index-preserved c =
    let sig = c.args.signature.now in
    let tops = c.args.tops.now in
    let n = c.loop-index.index in
    let sorts = c.as_slice-sorts.ensures ∙ ap (λ (s : Signature). s.sorts) c.signature.view_is in
    let pairs = ap (λ (s : SortOrder). s.pairs) c.requires.order in
    topped_more sig tops c.args.name.now n
    (λ e. subst (λ ps. (T : ℕ) × IsTop ps tops T × AtOrBelow ps (n + 1) T) pairs (c.if-not-is_topped.ensures refl (subst (λ xs. at_number xs (n + 1) ≡ Some c.args.name.now) (sym sorts) e)))
    c.loop-index.invariant

pub returns : goal.returns
returns c = λ h.
    let sig = c.args.signature.now in
    let all = subst (λ n. n ≤ c.loop-index.index) (c.sorts-index-end.ensures.sorts ∙ ap (λ (s : SortOrder). s.sorts) c.requires.order) c.loop-index-test.false in
    topped_all sig c.args.tops.now c.args.name.now c.loop-index.index all c.loop-index.invariant
