use Rattle.std.proofs.Common.{◌≡◌, ◌≤◌, length, ℕ}
use Rattle.std.specs.Prelude.{unwrap_or}
use Rattle.mw_logic.specs.Signature.{at_number}
use Rattle.mw_builtin.specs.Schemata.{IsSchemaOf}
use Rattle.mw_builtin.specs.declared.schema.Schema.TheVariants.{Nothing}
use Rattle.mw_builtin.proofs.rows.rows.Given as goal

abbrev pub invariant-loop-index : goal.invariant-loop-index
invariant-loop-index l = record {
  each : (f : ℕ) → f ≤ l.index → IsSchemaOf l.signature f (unwrap_or (at_number l.rows.items f) Nothing);
  size : length l.rows.items ≡ l.index;
}
