use Rattle.std.proofs.Common.{take}
use Rattle.mw_term.specs.Signatures.{sorted_of}
use Rattle.mw_sorts.specs.States.{ways}
use Rattle.mw_sorts.proofs.Choosing.{IsBelowThese}
use Rattle.mw_sorts.proofs.narrow.is_below_all.Given as goal

abbrev pub invariant-loop-number : goal.invariant-loop-number
invariant-loop-number l = IsBelowThese l.sorting.signature (ways l.operator) (take l.number-index l.alive) (sorted_of l.least)
