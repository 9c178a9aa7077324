use Rattle.std.proofs.Common.{ℕ, ◌<◌}
use Rattle.mw_logic.specs.Signature.{IsSortNamed}
use Rattle.mw_canon.proofs.rows.kind_named.Given as goal

abbrev pub invariant-loop-index : goal.invariant-loop-index
invariant-loop-index l = (S : ℕ) → IsSortNamed l.signature S l.fn.name → l.index < S
