use Rattle.std.proofs.Common.{◌≡◌, take}
use Rattle.mw_search.proofs.goals.all_copied.Given as goal

abbrev pub invariant-loop-goal : goal.invariant-loop-goal
invariant-loop-goal l = l.made.items ≡ take l.goal-index l.goals
