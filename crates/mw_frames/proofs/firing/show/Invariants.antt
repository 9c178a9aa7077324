use Rattle.std.proofs.Common.{◌≡◌, ◌++◌, List, length, reverse}
use Rattle.mw_logic.specs.Term.{RawTerm}
use Rattle.mw_logic.specs.Module.{Module}
use Rattle.mw_trail.specs.Tracks.{moves}
use Rattle.mw_frames.specs.Machines.{all_moves}
use Rattle.mw_frames.proofs.firing.show.Given as goal

abbrev pub invariant-loop-side : goal.invariant-loop-side
invariant-loop-side l =
    ((M : Module) → moves M l.fn.kept ++ all_moves M l.fn.sides.items ≡ moves M l.kept ++ all_moves M (reverse l.sides.items)) × (es : List RawTerm) × (l.kept.values ≡ l.fn.kept.values ++ es)

abbrev pub decreases-loop-side : goal.decreases-loop-side
decreases-loop-side l = length l.sides.items
