use Rattle.std.proofs.Common.{◌≡◌, ℕ, vec_len}
use Rattle.mw_deduction.specs.Replay.{whole}
use Rattle.mw_frames.specs.State.{Run, IsRun}
use Rattle.mw_frames.specs.Machines.{data_of}
use Rattle.mw_frames.specs.Redex.{Stands}
use Rattle.mw_frames.proofs.whole.whole.Given as goal

abbrev pub invariant-loop-frame : goal.invariant-loop-frame
invariant-loop-frame l = (K : Run) (k : ℕ) → IsRun K l.facts → (h : Stands K k (data_of K.over l.fn.machine) l.fn.term)
    → (i : Stands K k (data_of K.over l.machine) l.term) × (whole K.over.signature i.stand.opens i.stand.hand ≡ whole K.over.signature h.stand.opens h.stand.hand)

abbrev pub decreases-loop-frame : goal.decreases-loop-frame
decreases-loop-frame l = vec_len l.machine.frames
