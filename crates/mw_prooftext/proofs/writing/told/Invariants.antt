use Rattle.std.proofs.Common.{[], ◌∷◌, drop}
use Rattle.mw_deduction.specs.Replay.{begun, plays}
use Rattle.mw_trail.specs.Tracks.{moves_of}
use Rattle.mw_prooftext.proofs.Underway.{IsUnderWay}
use Rattle.mw_prooftext.proofs.writing.told.Given as goal

abbrev pub invariant-loop-item : goal.invariant-loop-item
invariant-loop-item l =
    IsUnderWay l.context l.fn.text.items l.chains.items (drop l.item-index l.item-items) l.values l.numbers (plays l.context (moves_of l.context l.item-items l.initial.values l.initial.numbers) (begun l.proved.rank l.proved.from ∷ []))
