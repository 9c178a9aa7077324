use Rattle.std.proofs.Common.{◌≡◌, take}
use Rattle.mw_position.specs.Variables.{bound_values}
use Rattle.mw_match.proofs.bindings.values_of.Given as goal

abbrev pub invariant-loop-binding : goal.invariant-loop-binding
invariant-loop-binding l = l.values.items ≡ take l.binding-index (bound_values l.given)
