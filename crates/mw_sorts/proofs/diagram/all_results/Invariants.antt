use Rattle.std.proofs.Common.{◌≡◌, map, take}
use Rattle.std.specs.Prelude.{Some}
use Rattle.mw_sorts.proofs.diagram.all_results.Given as goal

abbrev pub invariant-loop-end : goal.invariant-loop-end
invariant-loop-end l = map Some l.results.items ≡ take l.end-index l.ends
