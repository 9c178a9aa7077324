use Rattle.std.proofs.Common.{ℕ, ◌≡◌, ◌<◌, Some, length}
use Rattle.std.specs.List.{slice_get}
use Rattle.mw_grammar.proofs.compile.groups.Given as goal

-- the sorts so far have their numbers
pub record HasGroups (l : goal.Live-loop-sort) : Type 0 where
  pub count : length l.groups.items ≡ l.sort
  pub there : (K : ℕ) → K < l.sort → slice_get l.groups.items K ≡ Some K

abbrev pub invariant-loop-sort : goal.invariant-loop-sort
invariant-loop-sort l = HasGroups l
