use Rattle.std.proofs.Common.{subst, ℕ}
use Rattle.mw_poset.specs.SortOrder.{SortOrder}
use Rattle.mw_poset.specs.Order.{IsOnCycle}
use Rattle.mw_poset.proofs.Poset.sorts.Goals as goal

pub returns-clause-acyclic : goal.returns-clause-acyclic
returns-clause-acyclic c = subst (λ (o : SortOrder). (S : ℕ) → ¬ IsOnCycle o.pairs S) c.self.view_is c.self.invariant
