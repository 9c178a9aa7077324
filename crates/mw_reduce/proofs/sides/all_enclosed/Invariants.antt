use Rattle.std.proofs.Common.{◌≡◌, ◌++◌, length, reverse}
use Rattle.mw_logic.specs.Module.{Module}
use Rattle.mw_frames.specs.Machines.{all_moves as trail_moves}
use Rattle.mw_reduce.specs.Evaluations.{all_moves}
use Rattle.mw_reduce.proofs.sides.all_enclosed.Given as goal

abbrev pub invariant-loop-side : goal.invariant-loop-side
invariant-loop-side l = (M : Module) → trail_moves M l.trails.items ++ all_moves M (reverse l.left.items) ≡ all_moves M l.fn.sides.items

abbrev pub decreases-loop-side : goal.decreases-loop-side
decreases-loop-side l = length l.left.items
