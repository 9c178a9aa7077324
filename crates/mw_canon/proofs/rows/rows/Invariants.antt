use Rattle.std.proofs.Common.{◌≡◌, ◌≤◌, length, ℕ}
use Rattle.mw_canon.specs.Axioms.{HasRow}
use Rattle.mw_canon.proofs.rows.rows.Given as goal

abbrev pub invariant-loop-index : goal.invariant-loop-index
invariant-loop-index l = record {
  each : (f : ℕ) → f ≤ l.index → HasRow l.signature l.rows.items f;
  size : length l.rows.items ≡ l.index;
}
