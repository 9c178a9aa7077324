use Rattle.std.proofs.Common.{◌↔◌, ◌<◌, ℕ}
use Rattle.mw_logic.specs.Signature.{Member}
use Rattle.mw_sorts.proofs.diagram.all_alive.Given as goal

abbrev pub invariant-loop-number : goal.invariant-loop-number
invariant-loop-number l = (j : ℕ) → Member j l.all.items ↔ (j < l.number)
