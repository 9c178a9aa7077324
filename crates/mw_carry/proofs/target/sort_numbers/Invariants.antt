use Rattle.mw_carry.specs.Tables.{FindSorts}
use Rattle.mw_carry.proofs.target.sort_numbers.Given as goal

abbrev pub invariant-loop-index : goal.invariant-loop-index
invariant-loop-index l = FindSorts l.signature l.index l.numbers.entries
