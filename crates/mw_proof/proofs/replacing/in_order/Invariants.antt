use Rattle.std.proofs.Common.{◌≡◌, take}
use Rattle.mw_proof.specs.Replacing.{values_of}
use Rattle.mw_proof.proofs.replacing.in_order.Given as goal

abbrev pub invariant-loop-variable : goal.invariant-loop-variable
invariant-loop-variable l = l.found.items ≡ values_of l.values (take l.variable-index l.variables)
