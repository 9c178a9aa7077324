use Rattle.std.specs.Prelude.{ℕ, ◌≤◌}
use Rattle.mw_logic.specs.Signature.{IsSortNamed, SameKind}
use Rattle.mw_logic.specs.Sorts.{AtOrBelow}
use Rattle.mw_least.proofs.closed.are_within.Given as goal

abbrev pub invariant-loop-index : goal.invariant-loop-index
invariant-loop-index l = (T : ℕ) → T ≤ l.index → IsSortNamed l.signature T l.name → SameKind l.signature T l.sort → AtOrBelow l.signature.pairs T l.sort
