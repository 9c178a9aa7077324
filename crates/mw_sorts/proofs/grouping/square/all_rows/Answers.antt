use Rattle.std.proofs.Common.{◌≡◌, List, sym, subst, refl, map, arith}
use Rattle.std.proofs.lemmas.List.{length-map}
use Rattle.std.specs.Prelude.{slice_get, Some}
use Rattle.mw_term.specs.Signatures.{sorted_of}
use Rattle.mw_term.specs.declared.signature.Sorted.{Sorted}
use Rattle.mw_sorts.specs.Diagrams.{Level}
use Rattle.mw_sorts.proofs.Getting.{read-or, get-map}
use Rattle.mw_sorts.proofs.Matched.{IsRowFor, matched-more, rows-done}
use Rattle.mw_sorts.proofs.grouping.square.all_rows.Goals as goal

pub loop-entry-preserved : goal.loop-entry-preserved
loop-entry-preserved c =
    let n = c.loop-entry.entry-index in
    let at = get-map sorted_of c.args.entries.now n _ (read-or c.args.entries.now c.args.entries.now n (Sorted.Sort 0) refl c.loop-entry-test.true) in
    matched-more (IsRowFor c.args.places.now c.args.diagram.now) n (map sorted_of c.args.entries.now) c.loop-entry.rows.items c.push.new.self.items _ _ c.loop-entry.invariant at (λ q (level, row, a, b, g). c.next_row.ensures level row q (subst (λ (ls : List Level). slice_get ls 0 ≡ Some level) (sym c.as_slice-levels.ensures) a) b g) c.in_ok-push.ensures.items

pub returns : goal.returns
returns c =
    let high = c.loop-entry-test.false in
    let low = c.loop-entry.auto.entry-index-end in
    let m = length-map c.args.entries.now sorted_of in
    rows-done c.args.places.now c.args.diagram.now c.loop-entry.entry-index (map sorted_of c.args.entries.now) c.loop-entry.rows.items (omega arith) c.loop-entry.invariant
