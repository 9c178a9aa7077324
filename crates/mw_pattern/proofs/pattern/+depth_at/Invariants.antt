use Rattle.std.proofs.Common.{◌≡◌, ◌-◌, ◌^◌, ◌≤◌, min, max, drop}
use Rattle.mw_logic.specs.NormalForm.{highest}
use Rattle.mw_position.specs.Positions.{fill_all}
use Rattle.mw_pattern.specs.Clean.{clean_all}
use Rattle.mw_pattern.proofs.pattern.+depth_at.Given as goal

abbrev pub decreases-Patterns::deepest_at : goal.decreases-Patterns::deepest_at
decreases-Patterns::deepest_at l = goal.size-Patterns::deepest_at l

abbrev pub decreases-depth_at : goal.decreases-depth_at
decreases-depth_at l = goal.size-depth_at l

abbrev pub invariant-Patterns::deepest_at-loop-p : goal.invariant-Patterns::deepest_at-loop-p
invariant-Patterns::deepest_at-loop-p l =
    (min (max l.most (highest (fill_all l.values (clean_all (drop l.p-index l.p-items))))) (2 ^ 16 - 1) ≡ min (highest (fill_all l.values (clean_all l.p-items))) (2 ^ 16 - 1)) × (l.most ≤ 2 ^ 16 - 1)
