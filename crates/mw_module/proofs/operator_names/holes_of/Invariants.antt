use Rattle.std.proofs.Common.{◌≡◌, ◌+◌, ◌-◌, ◌<◌, ◌^◌, length, min}
use Rattle.mw_text.specs.Names.{count_holes}
use Rattle.mw_module.specs.OperatorNames.{items_in}
use Rattle.mw_module.proofs.operator_names.holes_of.Given as goal

abbrev pub invariant-loop-rest : goal.invariant-loop-rest
invariant-loop-rest l = record {
  count : min (l.holes + count_holes (items_in l.rest)) (2 ^ 64 - 1) ≡ min (count_holes (items_in l.name)) (2 ^ 64 - 1);
  fits : l.holes < 2 ^ 64;
}

abbrev pub decreases-loop-rest : goal.decreases-loop-rest
decreases-loop-rest l = length l.rest
