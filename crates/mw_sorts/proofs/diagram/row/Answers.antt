use Rattle.std.proofs.Common.{map, get_or, refl, subst, sym, arith}
use Rattle.std.proofs.lemmas.List.{length-map}
use Rattle.mw_term.specs.Signatures.{sorted_of}
use Rattle.mw_term.specs.declared.signature.Sorted.{Sorted}
use Rattle.mw_sorts.specs.Diagrams.{Row}
use Rattle.mw_sorts.specs.States.{ways, IsRowOf}
use Rattle.mw_sorts.proofs.Getting.{get-map, read-or}
use Rattle.mw_sorts.proofs.Growing.{row-more, row-done}
use Rattle.mw_sorts.proofs.diagram.row.Goals as goal

pub narrowed-requires-clause-kind : goal.narrowed-requires-clause-kind
narrowed-requires-clause-kind c =
    let k = c.requires.kind in
    let i = c.loop-entry.entry-index in
    (k.0, k.1, k.2.of_kind i (sorted_of (get_or c.args.entries.now i (Sorted.Sort 0))) (get-map sorted_of c.args.entries.now i _ (read-or c.args.entries.now c.args.entries.now i (Sorted.Sort 0) refl c.loop-entry-test.true)))

pub loop-entry-preserved : goal.loop-entry-preserved
loop-entry-preserved c =
    let i = c.loop-entry.entry-index in
    row-more c.args.sorting.now.signature (ways c.args.operator.now) c.args.place (map sorted_of c.args.entries.now) i c.args.alive.now c.args.next.now c.loop-entry.next c.number.new.self c.loop-entry.row.items
    c.push.new.self.items (sorted_of (get_or c.args.entries.now i (Sorted.Sort 0))) c.in_ok-number.field-0 c.in_ok-narrowed.narrowed.items c.loop-entry.invariant c.requires.alive
    (get-map sorted_of c.args.entries.now i _ (read-or c.args.entries.now c.args.entries.now i (Sorted.Sort 0) refl c.loop-entry-test.true)) c.in_ok-narrowed.ensures c.in_ok-number.ensures.kept c.in_ok-number.ensures.number
    c.in_ok-number.ensures.only c.in_ok-number.ensures.states c.in_ok-push.ensures.items

pub returns-clause-row : goal.returns-clause-row
returns-clause-row c =
    let high = c.loop-entry-test.false in
    let low = c.loop-entry.auto.entry-index-end in
    let m = length-map c.args.entries.now sorted_of in
    subst (λ (r : Row). IsRowOf c.args.sorting.now.signature (ways c.args.operator.now) c.args.place (map sorted_of c.args.entries.now) c.args.alive.now c.loop-entry.next r) (sym c.of.ensures)
    (row-done c.args.sorting.now.signature (ways c.args.operator.now) c.args.place (map sorted_of c.args.entries.now) c.loop-entry.entry-index c.args.alive.now c.args.next.now c.loop-entry.next c.loop-entry.row.items (omega arith)
    c.loop-entry.invariant)
