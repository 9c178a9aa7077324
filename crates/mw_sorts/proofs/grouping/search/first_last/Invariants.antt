use Rattle.std.proofs.Common.{◌≡◌, ◌<◌, ℕ}
use Rattle.std.specs.Prelude.{slice_get, Some}
use Rattle.mw_sorts.specs.Squares.{Agrees}
use Rattle.mw_sorts.proofs.grouping.search.first_last.Given as goal

abbrev pub invariant-loop-last : goal.invariant-loop-last
invariant-loop-last l = (m k : ℕ) → m < l.last-index → slice_get l.lasts m ≡ Some k → Agrees l.square l.first l.middle k
