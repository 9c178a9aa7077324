use Rattle.std.proofs.Common.{◌≡◌, drop}
use Rattle.mw_module.specs.Sortings.{seen_sorting, seen_sortings}
use Rattle.mw_declare.specs.Faults.{unknown_among, mentioned_by}
use Rattle.mw_declare.proofs.sorts.unknown_ranked.Given as goal

abbrev pub invariant-loop-arg : goal.invariant-loop-arg
invariant-loop-arg l = unknown_among l.sorts (mentioned_by (seen_sortings (drop l.arg-index l.args)) (seen_sorting l.value)) ≡ unknown_among l.sorts (mentioned_by (seen_sortings l.args) (seen_sorting l.value))
