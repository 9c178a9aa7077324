use Rattle.std.specs.Prelude.{ℕ, ◌≤◌}
use Rattle.mw_logic.specs.Signature.{IsSortNamed}
use Rattle.mw_logic.specs.Sorts.{AtOrBelow}
use Rattle.mw_least.specs.Sure.{IsTop}
use Rattle.mw_least.proofs.sure.are_topped.Given as goal

abbrev pub invariant-loop-index : goal.invariant-loop-index
invariant-loop-index l = (S : ℕ) → S ≤ l.index → IsSortNamed l.signature S l.name → (T : ℕ) × IsTop l.signature.pairs l.tops T × AtOrBelow l.signature.pairs S T
