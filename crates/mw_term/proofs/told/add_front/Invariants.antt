use Rattle.std.proofs.Common.{◌≡◌, ◌≤◌, ◌++◌, ℕ, length, drop}
use Rattle.mw_term.specs.Sections.{AreTold, told_by}
use Rattle.mw_term.proofs.told.add_front.Given as goal

abbrev pub invariant-loop-at : goal.invariant-loop-at
invariant-loop-at l = record {
  inside : l.at ≤ length l.front;
  table : (b : ℕ) × AreTold b l.told.items (drop l.at l.front ++ l.terms) × (l.last ≡ told_by b (drop l.at l.front ++ l.terms));
}

abbrev pub decreases-loop-at : goal.decreases-loop-at
decreases-loop-at l = l.at
