use Rattle.std.proofs.Common.{ℕ, List, length, reverse}
use Rattle.mw_logic.specs.Module.{Module, Statement}
use Rattle.mw_logic.specs.Substitution.{Substitution}
use Rattle.mw_index.specs.declared.conditions.Test.{Test}
use Rattle.mw_reduce.specs.Evaluations.{IsBack}
use Rattle.mw_reduce.proofs.evaluation.turn_back.Given as goal

abbrev pub invariant-loop-other : goal.invariant-loop-other
invariant-loop-other l =
    (M : Module) (n : ℕ) (e : Statement) (tests : List Test) (s : Substitution) → IsBack M n e tests s l.fn.sides.items (reverse l.fn.others.items) → IsBack M n e tests s l.sides.items (reverse l.others.items)

abbrev pub decreases-loop-other : goal.decreases-loop-other
decreases-loop-other l = length l.others.items
