use Rattle.std.proofs.Common.{◌≡◌, ◌++◌}
use Rattle.mw_declare.specs.Faults.{variables_with}
use Rattle.mw_declare.proofs.Typings.{typing_held}
use Rattle.mw_declare.proofs.variables.Typing.variables.Given as goal

abbrev pub invariant-loop-name : goal.invariant-loop-name
invariant-loop-name l = l.variables.items ++ variables_with l.sorts (typing_held l.name-iterator) ≡ variables_with l.sorts l.self
