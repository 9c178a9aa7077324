use Rattle.std.proofs.Common.{◌≤◌, ◌-◌, ℕ, length}
use Rattle.mw_term.specs.Sections.{AreJoined}
use Rattle.mw_term.proofs.told.join_last.Given as goal

abbrev pub invariant-loop-at : goal.invariant-loop-at
invariant-loop-at l = record {
  some : 1 ≤ l.at;
  joined : (b : ℕ) × AreJoined b l.at l.told.items l.terms l.term;
}

abbrev pub decreases-loop-at : goal.decreases-loop-at
decreases-loop-at l = length l.told.items - l.at
