use Rattle.std.proofs.Common.{◌≡◌, ◌≤◌, ◌+◌, ◌-◌, ℕ, length, max}
use Rattle.mw_chart.specs.Listed.{inner}
use Rattle.mw_grammar.proofs.listing.room.Given as goal

-- the lists so far, and empty ones behind them
pub record IsRoom (l : goal.Live-loop-alloc) : Type 0 where
  pub low : length l.initial.lists.items ≤ length l.lists.items
  pub high : length l.lists.items ≤ max (length l.initial.lists.items) (l.number + 1)
  pub same : (k : ℕ) → inner l.lists.items k ≡ inner l.initial.lists.items k

abbrev pub invariant-loop-alloc : goal.invariant-loop-alloc
invariant-loop-alloc l = IsRoom l

abbrev pub decreases-loop-alloc : goal.decreases-loop-alloc
decreases-loop-alloc l = l.number + 1 - length l.lists.items
