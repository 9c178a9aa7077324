use Rattle.std.proofs.Common.{◌≡◌, ◌<◌, ℕ}
use Rattle.std.specs.Prelude.{slice_get, Some}
use Rattle.mw_sorts.specs.Squares.{Agrees, width}
use Rattle.mw_sorts.proofs.grouping.search.first_triple.Given as goal

abbrev pub invariant-loop-first : goal.invariant-loop-first
invariant-loop-first l = (m i : ℕ) → m < l.first-index → slice_get l.first-items m ≡ Some i → (j k : ℕ) → j < width l.square → k < width l.square → Agrees l.square i j k
