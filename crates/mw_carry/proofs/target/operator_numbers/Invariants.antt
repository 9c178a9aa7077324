use Rattle.mw_carry.specs.Tables.{FindOperators}
use Rattle.mw_carry.proofs.target.operator_numbers.Given as goal

abbrev pub invariant-loop-index : goal.invariant-loop-index
invariant-loop-index l = FindOperators l.signature l.index l.numbers.entries
