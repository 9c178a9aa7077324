use Rattle.std.proofs.Common.{◌≡◌, ℕ, length, subst, refl, map, arith}
use Rattle.std.proofs.lemmas.List.{length-map}
use Rattle.mw_term.specs.Signatures.{sorted_of}
use Rattle.mw_term.specs.declared.signature.Sorted.{Sorted}
use Rattle.mw_sorts.proofs.Getting.{read-or, get-map}
use Rattle.mw_sorts.proofs.Matched.{AreMatched, IsColumnFor, matched-more, columns-kept, columns-done}
use Rattle.mw_sorts.proofs.Grouped.{square-made}
use Rattle.mw_sorts.proofs.grouping.square.square_of.Goals as goal

pub loop-entry-preserved : goal.loop-entry-preserved
loop-entry-preserved c =
    let n = c.loop-entry.entry-index in
    let at = get-map sorted_of c.args.entries.now n _ (read-or c.args.entries.now c.args.entries.now n (Sorted.Sort 0) refl c.loop-entry-test.true) in
    let w = length c.args.entries.now in
    matched-more (IsColumnFor c.places-places.result.now c.args.diagram.now w c.number.new.self) n (map sorted_of c.args.entries.now) c.loop-entry.columns.items c.push.new.self.items _ c.in_ok-number.field-0
    (columns-kept c.places-places.result.now c.args.diagram.now w n c.loop-entry.lists c.number.new.self (map sorted_of c.args.entries.now) c.loop-entry.columns.items c.in_ok-number.ensures.kept c.loop-entry.invariant) at
    (c.in_ok-column.column.items, c.in_ok-number.ensures.number, c.in_ok-column.ensures) c.in_ok-push.ensures.items

pub returns : goal.returns
returns c =
    let high = c.loop-entry-test.false in
    let low = c.loop-entry.auto.entry-index-end in
    let r = c.requires in
    let es = c.args.entries.now in
    let places = c.places-places.result.now in
    let m = length-map es sorted_of in
    let n : c.loop-entry.entry-index ≡ length es = omega arith in
    let h : AreMatched (IsColumnFor places c.args.diagram.now (length es) c.loop-entry.lists) (length es) (map sorted_of es) c.loop-entry.columns.items =
    subst (λ (i : ℕ). AreMatched (IsColumnFor places c.args.diagram.now (length es) c.loop-entry.lists) i (map sorted_of es) c.loop-entry.columns.items) n c.loop-entry.invariant in
    square-made c.args.sorting.now r.order_sorted c.args.operator.now es r.entries r.operator.0 r.operator.1 r.assoc c.args.diagram.now places r.diagram _ c.in_ok-new.field-0.value c.places-places.ensures c.in_ok-new.ensures.ok c.in_ok-rows.ensures c.loop-entry.lists c.second_height.result c.second_height.ensures c.in_ok-results.ensures
    (columns-done places c.args.diagram.now (length es) (map sorted_of es) c.loop-entry.columns.items c.loop-entry.lists m h)
