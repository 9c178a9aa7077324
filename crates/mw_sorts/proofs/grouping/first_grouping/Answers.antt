use Rattle.std.proofs.Common.{◌≡◌, ◌∙◌, ◌<◌, List, length, map, sym, subst}
use Rattle.std.proofs.lemmas.List.{length-map}
use Rattle.std.specs.Prelude.{Some}
use Rattle.mw_term.specs.Signatures.{sorted_of}
use Rattle.mw_term.specs.declared.signature.Sorted.{Sorted as Held}
use Rattle.mw_sorts.specs.Groupings.{IsFirstGrouping}
use Rattle.mw_sorts.specs.Squares.{IsSquare, IsSquareOf, IsFirstTripleWithout, width, Agrees}
use Rattle.mw_sorts.proofs.Getting.{read-get, get-map}
use Rattle.mw_sorts.proofs.Passes.{entries-read}
use Rattle.mw_sorts.proofs.Grouped.{groups-alike, first-grouping}
use Rattle.mw_sorts.proofs.grouping.first_grouping.Goals as goal

pub square_of-requires-clause-entries : goal.square_of-requires-clause-entries
square_of-requires-clause-entries c = entries-read c.args.sorting.now _ c.args.operator.now c.in_ok-entries.entries.items c.as_slice.result.now c.operator.view_is c.as_slice.ensures.value c.in_ok-entries.ensures

pub first_triple-requires : goal.first_triple-requires
first_triple-requires c = subst IsSquare (sym c.deref.ensures) c.in_ok-square.ensures.square

pub returns-in_default : goal.returns-in_default
returns-in_default c =
    let r = c.requires in
    let o = c.args.operator.now in
    let q = c.deref.result.now in
    let es = c.as_slice.result.now in
    let h = entries-read c.args.sorting.now _ o c.in_ok-entries.entries.items es c.operator.view_is c.as_slice.ensures.value c.in_ok-entries.ensures in
    let s = subst (IsSquareOf c.args.sorting.now o (map sorted_of es)) (sym c.deref.ensures) c.in_ok-square.ensures in
    groups-alike c.args.sorting.now r.order_sorted o (map sorted_of es) h r.operator.0 r.operator.1 r.assoc c.args.diagram.now r.diagram q s (subst (IsFirstTripleWithout (width q) (Agrees q)) c.in_default.is c.in_ok-first.ensures)

pub returns : goal.returns
returns c =
    let r = c.requires in
    let o = c.args.operator.now in
    let q = c.deref.result.now in
    let items = c.in_ok-entries.entries.items in
    let es = c.as_slice.result.now in
    let h = entries-read c.args.sorting.now _ o items es c.operator.view_is c.as_slice.ensures.value c.in_ok-entries.ensures in
    let s = subst (IsSquareOf c.args.sorting.now o (map sorted_of es)) (sym c.deref.ensures) c.in_ok-square.ensures in
    let t : IsFirstTripleWithout (width q) (Agrees q) (Some (c.in-Some.first, c.in-Some.middle, c.in-Some.last)) = subst (IsFirstTripleWithout (width q) (Agrees q)) c.in-Some.is c.in_ok-first.ensures in
    let n : width q ≡ length es = s.wide ∙ length-map es sorted_of in
    let same = sym c.as_slice.ensures.value in
    let i = read-get es items c.in-Some.first c.index.result.now same (subst (λ w. c.in-Some.first < w) n t.0) c.index.ensures in
    let j = read-get es items c.in-Some.middle c.index-2.result.now same (subst (λ w. c.in-Some.middle < w) n t.1.0) c.index-2.ensures in
    let k = read-get es items c.in-Some.last c.index-3.result.now same (subst (λ w. c.in-Some.last < w) n t.1.1.0) c.index-3.ensures in
    subst (λ (xs : List Held). IsFirstGrouping c.args.sorting.now.signature o (map sorted_of xs)) (sym c.in_ok-sorts.ensures.items) (
    first-grouping c.args.sorting.now r.order_sorted o (map sorted_of es) h r.operator.0 r.operator.1 r.assoc c.args.diagram.now r.diagram q s c.in-Some.first c.in-Some.middle c.in-Some.last _ _ _ (get-map sorted_of es _ _ i) (get-map sorted_of es _ _ j)
    (get-map sorted_of es _ _ k) t
    )
