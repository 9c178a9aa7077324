use Rattle.std.proofs.Common.{◌≡◌, ◌<◌, ℕ}
use Rattle.std.specs.Prelude.{slice_get, Some}
use Rattle.mw_sorts.specs.Squares.{Agrees, width}
use Rattle.mw_sorts.proofs.grouping.search.first_pair.Given as goal

abbrev pub invariant-loop-middle : goal.invariant-loop-middle
invariant-loop-middle l = (m j : ℕ) → m < l.middle-index → slice_get l.middles m ≡ Some j → (k : ℕ) → k < width l.square → Agrees l.square l.first j k
