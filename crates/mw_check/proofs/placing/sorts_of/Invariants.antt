use Rattle.std.proofs.Common.{◌≡◌, take}
use Rattle.mw_position.specs.Variables.{sorts_of}
use Rattle.mw_check.proofs.placing.sorts_of.Given as goal

abbrev pub invariant-loop-variable : goal.invariant-loop-variable
invariant-loop-variable l = l.sorts.items ≡ sorts_of (take l.variable-index l.variables)
