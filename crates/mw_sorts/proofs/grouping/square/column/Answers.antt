use Rattle.std.proofs.Common.{◌≡◌, ◌∙◌, ℕ, List, ap, sym, subst}
use Rattle.std.specs.Prelude.{slice_get, Some}
use Rattle.mw_term.specs.Signatures.{sorted_of}
use Rattle.mw_term.specs.declared.signature.Sorted.{Sorted as Held}
use Rattle.mw_sorts.specs.Entries.{place_in}
use Rattle.mw_sorts.specs.Diagrams.{Level}
use Rattle.mw_sorts.proofs.Matched.{IsPlaceTo, counted-more, column-done}
use Rattle.mw_sorts.proofs.grouping.square.column.Goals as goal

pub loop-row-preserved : goal.loop-row-preserved
loop-row-preserved c =
    let places = c.args.places.now in
    let d = c.args.diagram.now in
    let T = sorted_of c.args.sort in
    counted-more (IsPlaceTo places d c.args.width T) c.loop-row.row c.loop-row.column.items c.push.new.self.items c.place.result c.loop-row.invariant (λ R b.
    let (level, row, end, there, g, k, r) = b in
    let e : c.next_row-end.result ≡ end = c.next_row-end.ensures level row end (subst (λ (ls : List Level). slice_get ls 1 ≡ Some level) (sym c.as_slice-levels.ensures) there) g k in
    let at : slice_get c.as_slice.result.now c.next_row-end.result ≡ Some R =
    subst (λ (i : ℕ). slice_get c.as_slice.result.now i ≡ Some R) (sym e) (subst (λ (es : List Held). slice_get es end ≡ Some R) (sym c.as_slice.ensures) r) in
    c.place.ensures ∙ ap (λ (x : Held). place_in places c.args.width (sorted_of x)) (c.end_at-result.ensures R at)
    ) c.in_ok-push.ensures.items

pub returns : goal.returns
returns c = column-done c.args.places.now c.args.diagram.now c.args.width (sorted_of c.args.sort) c.loop-row.row c.second_height-height.result c.loop-row.column.items c.second_height-height.ensures c.loop-row-test.false c.loop-row.invariant
