use Rattle.std.proofs.Common.{subst, ℕ, List}
use Rattle.mw_poset.specs.Order.{IsOnCycle}
use Rattle.mw_poset.proofs.Poset.build.Goals as goal

pub returns-clause-acyclic : goal.returns-clause-acyclic
returns-clause-acyclic c = subst (λ (ps : List (ℕ × ℕ)). (S : ℕ) → ¬ IsOnCycle ps S) c.in_ok-preorder.ensures.pairs c.in_default.ensures.none
