use Rattle.std.proofs.Common.{◌≡◌, ◌<◌, ℕ, get_or}
use Rattle.std.specs.Prelude.{slice_get, Some, false}
use Rattle.mw_sorts.proofs.fault.first_marked.Given as goal

abbrev pub invariant-loop-place : goal.invariant-loop-place
invariant-loop-place l = (j other : ℕ) → j < l.place → slice_get l.row j ≡ Some other → get_or l.marks other false ≡ false
