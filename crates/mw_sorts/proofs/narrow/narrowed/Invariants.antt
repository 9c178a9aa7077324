use Rattle.std.proofs.Common.{take}
use Rattle.mw_term.specs.Signatures.{sorted_of}
use Rattle.mw_sorts.specs.States.{ways, Narrows}
use Rattle.mw_sorts.proofs.narrow.narrowed.Given as goal

abbrev pub invariant-loop-number : goal.invariant-loop-number
invariant-loop-number l = Narrows l.sorting.signature (ways l.operator) l.place (sorted_of l.sort) (take l.number-index l.alive) l.narrowed.items
