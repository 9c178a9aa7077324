use Rattle.std.proofs.Common.{◌≡◌, ◌≤◌, drop}
use Rattle.mw_proof.specs.Counting.{AreCapped, counted_to}
use Rattle.mw_proof.proofs.counting.count_all.Given as goal

abbrev pub invariant-loop-item : goal.invariant-loop-item
invariant-loop-item l = (counted_to l.context l.depth l.counts (drop l.item-index l.item-items) ≡ counted_to l.context 0 l.initial.counts l.item-items) × AreCapped l.counts × (l.depth ≤ l.item-index)
