use Rattle.std.proofs.Common.{take}
use Rattle.std.specs.Prelude.{All}
use Rattle.mw_logic.specs.Sorts.{AtOrBelow}
use Rattle.mw_poset.specs.Tables.{supersorts}
use Rattle.mw_poset.proofs.preorder.Preorder.is_on_cycle.Given as goal

abbrev pub invariant-loop-next : goal.invariant-loop-next
invariant-loop-next l = All (λ T. AtOrBelow l.self.pairs T l.sort → ⊥) (take l.next-index (supersorts l.self.pairs l.sort))
