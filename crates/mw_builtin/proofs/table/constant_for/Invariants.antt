use Rattle.std.proofs.Common.{◌≡◌, ◌≤◌, ℕ}
use Rattle.std.specs.Prelude.{unwrap_or}
use Rattle.mw_logic.specs.Signature.{at_number}
use Rattle.mw_builtin.specs.declared.schema.Schema.TheVariants.{Nothing, Truth}
use Rattle.mw_builtin.proofs.table.constant_for.Given as goal

abbrev pub invariant-loop-index : goal.invariant-loop-index
invariant-loop-index l = (f : ℕ) → f ≤ l.index → unwrap_or (at_number l.fn.rows f) Nothing ≡ Truth l.fn.truth → ⊥
