use Rattle.std.proofs.Common.{ℕ, ◌≤◌}
use Rattle.mw_logic.specs.Signature.{IsSuccessor}
use Rattle.mw_sorts.proofs.numbers.successor.Given as goal

abbrev pub invariant-loop-index : goal.invariant-loop-index
invariant-loop-index l = (f : ℕ) → f ≤ l.index → IsSuccessor l.signature f → ⊥
