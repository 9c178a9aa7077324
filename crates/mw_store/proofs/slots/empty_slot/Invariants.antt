use Rattle.mw_store.specs.Slots.{AreFull}
use Rattle.mw_store.proofs.slots.empty_slot.Given as goal

abbrev pub invariant-loop-steps : goal.invariant-loop-steps
invariant-loop-steps l = AreFull l.slots l.hash l.steps
