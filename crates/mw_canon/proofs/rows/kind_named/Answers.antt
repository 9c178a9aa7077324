use Rattle.std.proofs.Common.{◌≡◌, ◌∙◌, ◌+◌, ◌≤◌, ap, sym, subst}
use Rattle.std.proofs.lemmas.Bool.{both_ways}
use Rattle.std.proofs.lemmas.Slice.Eq.{bytes_eq-Decides}
use Rattle.mw_logic.specs.Signature.{Signature, IsSortNamed}
use Rattle.mw_poset.specs.SortOrder.{SortOrder}
use Rattle.mw_poset.specs.Order.{IsKindOf}
use Rattle.mw_canon.proofs.Reading.{sort_at, sort_behind, no_sort_past}
use Rattle.mw_canon.proofs.rows.kind_named.Goals as goal

pub returns-then-eq : goal.returns-then-eq
returns-then-eq c =
    let is : IsSortNamed c.args.signature.now (c.loop-index.index + 1) c.index-names-index.result =
    sort_at c.args.signature.now c.as_slice-names.result.now c.sorts-index-end.result c.loop-index.index c.index-names-index.result (c.as_slice-names.ensures ∙ ap (λ (s : Signature). s.sorts) c.signature.view_is)
    (c.sorts-index-end.ensures.sorts ∙ ap (λ (o : SortOrder). o.sorts) c.requires) c.loop-index-test.true c.index-names-index.is in
    let name : c.index-names-index.result ≡ c.args.name.now = sym c.as_slice.ensures ∙ (bytes_eq-Decides _ _).0 (sym c.eq.ensures ∙ c.if-eq.true) in
    (c.loop-index.index + 1, subst (IsSortNamed c.args.signature.now (c.loop-index.index + 1)) name is, subst (λ ps. IsKindOf ps (c.loop-index.index + 1) c.kind_of.result) (ap (λ (o : SortOrder). o.pairs) c.requires) c.kind_of.ensures)

pub loop-index-preserved : goal.loop-index-preserved
loop-index-preserved c =
    let is : IsSortNamed c.args.signature.now (c.loop-index.index + 1) c.index-names-index.result =
    sort_at c.args.signature.now c.as_slice-names.result.now c.sorts-index-end.result c.loop-index.index c.index-names-index.result (c.as_slice-names.ensures ∙ ap (λ (s : Signature). s.sorts) c.signature.view_is)
    (c.sorts-index-end.ensures.sorts ∙ ap (λ (o : SortOrder). o.sorts) c.requires) c.loop-index-test.true c.index-names-index.is in
    sort_behind c.args.signature.now c.loop-index.index c.index-names-index.result c.args.name.now is
    (λ e. both_ways _ (sym c.eq.ensures ∙ c.if-eq.false) ((bytes_eq-Decides _ _).1 (c.as_slice.ensures ∙ e))) c.loop-index.invariant

pub returns : goal.returns
returns c = no_sort_past c.args.signature.now c.loop-index.index c.args.name.now (subst (λ n. n ≤ c.loop-index.index) (c.sorts-index-end.ensures.sorts ∙ ap (λ (o : SortOrder). o.sorts) c.requires) c.loop-index-test.false) c.loop-index.invariant
