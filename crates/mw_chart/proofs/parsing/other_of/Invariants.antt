use Rattle.std.proofs.Common.{◌≡◌, ◌<◌, ℕ, Some}
use Rattle.std.specs.List.{slice_get}
use Rattle.mw_chart.specs.Answer.{IsWanted}
use Rattle.mw_chart.specs.declared.reading.Reading.{Reading}
use Rattle.mw_chart.proofs.parsing.other_of.Given as goal

abbrev pub invariant-loop-k : goal.invariant-loop-k
invariant-loop-k l = (j : ℕ) (x : Reading) → j < l.k → slice_get l.listed.items j ≡ Some x → IsWanted l.wanted x.kind → x.tree ≡ l.first
