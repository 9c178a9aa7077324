use Rattle.std.proofs.Common.{◌≡◌, ◌<◌, ℕ, Some}
use Rattle.std.specs.List.{slice_get}
use Rattle.mw_chart.specs.Listed.{IsListed}
use Rattle.mw_chart.specs.Row.{IsInStrip}
use Rattle.mw_chart.specs.declared.item.Constituent.{Constituent}
use Rattle.mw_chart.proofs.row.indexed.Given as goal

abbrev pub invariant-loop-k : goal.invariant-loop-k
invariant-loop-k l = record {
  listed : (j : ℕ) (r : Constituent) → j < l.k → slice_get l.constituent-items j ≡ Some r → IsListed l.places.items r.end j × IsInStrip l.strips.items r.state r.end;
}
