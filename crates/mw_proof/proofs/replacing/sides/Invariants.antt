use Rattle.std.proofs.Common.{◌≡◌, ◌++◌, List, reverse, vec_len}
use Rattle.mw_logic.specs.Module.{Module}
use Rattle.mw_trail.specs.Tracks.{moves}
use Rattle.mw_proof.specs.Deductions.{Deduction}
use Rattle.mw_proof.specs.Replacing.{AreSides}
use Rattle.mw_proof.proofs.replacing.sides.Given as goal

abbrev pub invariant-loop-inner : goal.invariant-loop-inner
invariant-loop-inner l = (M : Module) → (ds : List Deduction) × (l.initial.waiting.items ≡ l.waiting.items ++ reverse ds) × AreSides M ds (moves M l.trail)

abbrev pub decreases-loop-inner : goal.decreases-loop-inner
decreases-loop-inner l = vec_len l.waiting
