use Rattle.std.proofs.Common.{refl}
use Rattle.mw_term.specs.Signatures.{sorted_of}
use Rattle.mw_term.specs.declared.signature.Sorted.{Sorted}
use Rattle.mw_sorts.specs.Leaving.{StaysLow}
use Rattle.mw_sorts.proofs.Getting.{read-or, get-map}
use Rattle.mw_sorts.proofs.Heads.{visited-more, visited-all}
use Rattle.mw_sorts.proofs.Passes.{entries-read}
use Rattle.mw_sorts.proofs.Lowered.{keeps-all, first-left}
use Rattle.mw_sorts.proofs.leaving.first_left.Goals as goal

pub stays_low-requires-clause-sort : goal.stays_low-requires-clause-sort
stays_low-requires-clause-sort c =
    let es = c.as_slice-entry-items.result.now in
    let n = c.loop-entry.entry-index in
    let h = entries-read c.args.sorting.now _ c.args.operator.now c.in_ok-entries.entries.items es c.operator.view_is c.as_slice-entry-items.ensures.value c.in_ok-entries.ensures in
    h.of_kind n _ (get-map sorted_of es n _ (read-or es es n (Sorted.Sort 0) refl c.loop-entry-test.true))

pub returns-then-not-stays_low : goal.returns-then-not-stays_low
returns-then-not-stays_low c =
    let r = c.requires in
    let es = c.as_slice-entry-items.result.now in
    let n = c.loop-entry.entry-index in
    let h = entries-read c.args.sorting.now _ c.args.operator.now c.in_ok-entries.entries.items es c.operator.view_is c.as_slice-entry-items.ensures.value c.in_ok-entries.ensures in
    first-left c.args.sorting.now r.order_sorted r.naturals c.args.operator.now es h r.operator.0 r.operator.1 c.args.diagram.now r.diagram (sorted_of c.args.identity) r.identity n _ (read-or es es n (Sorted.Sort 0) refl c.loop-entry-test.true)
    (c.stays_low.ensures.raised c.if-not-stays_low.true) c.loop-entry.invariant

pub loop-entry-preserved : goal.loop-entry-preserved
loop-entry-preserved c =
    let es = c.as_slice-entry-items.result.now in
    let n = c.loop-entry.entry-index in
    visited-more es n _ (λ (T : Sorted). StaysLow c.args.sorting.now.signature c.args.operator.now (sorted_of c.args.identity) (sorted_of T)) c.loop-entry.invariant (read-or es es n (Sorted.Sort 0) refl c.loop-entry-test.true)
    (c.stays_low.ensures.low c.if-not-stays_low.false)

pub returns : goal.returns
returns c =
    let r = c.requires in
    let es = c.as_slice-entry-items.result.now in
    let h = entries-read c.args.sorting.now _ c.args.operator.now c.in_ok-entries.entries.items es c.operator.view_is c.as_slice-entry-items.ensures.value c.in_ok-entries.ensures in
    let all = visited-all es c.loop-entry.entry-index (λ (T : Sorted). StaysLow c.args.sorting.now.signature c.args.operator.now (sorted_of c.args.identity) (sorted_of T)) c.loop-entry-test.false c.loop-entry.invariant in
    keeps-all c.args.sorting.now r.order_sorted r.naturals c.args.operator.now es h r.operator.0 r.operator.1 c.args.diagram.now r.diagram (sorted_of c.args.identity) r.identity all
