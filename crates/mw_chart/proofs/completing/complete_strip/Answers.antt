use Rattle.std.proofs.Common.{◌∙◌, ◌-◌, ap, slice_index, sym, arith, length}
use Rattle.mw_chart.specs.Listed.{inner}
use Rattle.mw_chart.proofs.Ends.{vec_length}
use Rattle.mw_chart.proofs.Covered.{grows_same, grows_then, within_same, ready_again, ready_then, covers_first, covers_word, covers_last, covers_none, predicted}
use Rattle.mw_chart.proofs.completing.complete_strip.Goals as goal

pub returns-then-not-takes-clause-grows : goal.returns-then-not-takes-clause-grows
returns-then-not-takes-clause-grows c = grows_same _ _

pub returns-then-not-takes-clause-covers : goal.returns-then-not-takes-clause-covers
returns-then-not-takes-clause-covers c =
    covers_none _ c.args.over.table.now c.args.over.row.now.constituents.items c.args.over.n c.args.over.kind c.args.over.below c.args.over.next c.args.over.tree.now c.args.strip.now
    (λ t. let bad = c.if-not-takes.ensures.1 t in let h : ⊥ = (cc) in h)

pub loop-index-init : goal.loop-index-init
loop-index-init c =
    let n = vec_length c.args.agenda.now.cells in
    let e = c.len.ensures in record {
      ready = c.requires;
      grows = grows_same _ _;
      covers = covers_first _ c.args.over.table.now c.args.over.row.now.constituents.items c.args.over.n (c.args.over.n - length c.args.agenda.now.cells.items) c.args.over.kind c.args.over.below c.args.over.next c.args.over.tree.now c.args.strip.now _
          c.requires.within (omega (arith, n, e));
    }

pub complete_word-requires-clause-ready : goal.complete_word-requires-clause-ready
complete_word-requires-clause-ready c = ready_again _ _ _ _ c.loop-index.invariant.ready

pub loop-index-preserved : goal.loop-index-preserved
loop-index-preserved c =
    let len = c.loop-index.invariant.ready.count in
    let shape = c.requires.shape in record {
      ready = ready_then _ _ _ _ _ c.loop-index.invariant.ready c.in_ok-complete_word.ensures.ready;
      grows = grows_then _ _ _ _ c.loop-index.invariant.grows c.in_ok-complete_word.ensures.grows;
      covers = covers_word c.loop-index.agenda.cells.items _ c.args.over.table.now c.args.over.row.now.constituents.items c.args.over.n c.args.over.kind c.args.over.below c.args.over.next c.args.over.tree.now c.args.strip.now
          c.loop-index.agenda.full.items c.loop-index.index c.open_of-word.result (omega (arith, len, shape))
          (within_same c.args.over.row.now.constituents.items c.args.over.n _ _ (sym len) c.requires.within) c.loop-index.invariant.ready.full
          (λ i set. predicted c.loop-index.index i c.word_of.result c.word_of-full.result c.open_of-word.result c.args.strip.now.ends.items (inner c.loop-index.agenda.full.items c.args.over.next)
          (c.word_of.ensures ∙ ap (λ l. slice_index l c.loop-index.index) c.as_slice.ensures.value) (c.word_of-full.ensures ∙ ap (λ l. slice_index l c.loop-index.index) c.listed.ensures) c.open_of-word.ensures set)
          c.in_ok-complete_word.ensures.grows.kept c.loop-index.invariant.covers c.in_ok-complete_word.ensures.covers;
    }

pub returns-clause-covers : goal.returns-clause-covers
returns-clause-covers c =
    let h = c.loop-index-test.false in
    covers_last _ c.args.over.table.now c.args.over.row.now.constituents.items c.args.over.n (c.args.over.n - length c.args.agenda.now.cells.items) c.args.over.kind c.args.over.below c.args.over.next c.args.over.tree.now c.args.strip.now c.loop-index.index
    c.requires.within (omega (arith, h)) c.loop-index.invariant.covers
