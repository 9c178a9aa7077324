use Rattle.std.proofs.Common.{take}
use Rattle.mw_store.specs.Slots.{AreReached}
use Rattle.mw_store.specs.Tables.{hashes_in}
use Rattle.mw_store.proofs.nodes.slots_for.Given as goal

abbrev pub invariant-loop-index : goal.invariant-loop-index
invariant-loop-index l = AreReached l.slots.items (take l.index (hashes_in l.kept))
