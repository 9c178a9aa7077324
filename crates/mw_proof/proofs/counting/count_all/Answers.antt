use Rattle.std.proofs.Common.{◌≡◌, ◌∙◌, [], ap, sym, refl}
use Rattle.std.proofs.lemmas.List.{drop_all}
use Rattle.mw_proof.specs.declared.counting.Counts.{Counts}
use Rattle.mw_proof.specs.Counting.{counted_to}
use Rattle.mw_proof.proofs.Totals.{counted_all}
use Rattle.mw_proof.proofs.counting.count_all.Goals as goal

pub returns : goal.returns
returns c =
    let M = c.args.context.now in
    let xs = c.items-item-items.result.now in
    let z : Counts = record { count = 0; steps = 0; rules = 0 } in
    let d = c.loop-item.depth in
    let e : counted_to M d c.loop-item.counts [] ≡ counted_to M 0 z c.args.trail.now.items =
    ap (counted_to M d c.loop-item.counts) (sym (drop_all c.loop-item.item-index xs c.loop-item-test.false)) ∙ c.loop-item.invariant.0 ∙ ap (counted_to M 0 z) c.items-item-items.ensures in
    counted_all M d c.loop-item.counts z c.args.trail.now c.loop-item.invariant.1 refl refl refl e
