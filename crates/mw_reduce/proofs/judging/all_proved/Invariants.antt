use Rattle.std.proofs.Common.{◌≡◌, ◌++◌, length, map, reverse}
use Rattle.mw_reduce.specs.Evaluations.{AreKept, deduction_of}
use Rattle.mw_reduce.proofs.judging.all_proved.Given as goal

abbrev pub invariant-loop-side : goal.invariant-loop-side
invariant-loop-side l =
    AreKept l.context l.rank (reverse l.left.items)
    × (l.proofs.items ++ map (deduction_of l.context l.rank) (reverse l.left.items) ≡ map (deduction_of l.context l.rank) l.fn.sides.items)

abbrev pub decreases-loop-side : goal.decreases-loop-side
decreases-loop-side l = length l.left.items
