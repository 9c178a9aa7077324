use Rattle.std.proofs.Common.{◌≡◌, ◌<◌, ℕ, Some}
use Rattle.std.specs.List.{slice_get}
use Rattle.mw_chart.specs.Readings.{IsAt}
use Rattle.mw_chart.specs.declared.reading.Reading.{Reading}
use Rattle.mw_chart.proofs.parsing.other_pair.Given as goal

abbrev pub invariant-loop-left : goal.invariant-loop-left
invariant-loop-left l = (j : ℕ) (x : Reading) → j < l.left → slice_get l.lefts.items j ≡ Some x → (k : ℕ) (y : Reading) → IsAt l.rights.items k y → x.kind ≡ y.kind → (x.tree ≡ l.first.left) × (y.tree ≡ l.first.right)
