use Rattle.std.proofs.Common.{take}
use Rattle.mw_term.specs.Signatures.{sorted_of}
use Rattle.mw_sorts.specs.States.{ways}
use Rattle.mw_sorts.proofs.Choosing.{IsCandidate}
use Rattle.mw_sorts.proofs.narrow.candidate.Given as goal

abbrev pub invariant-loop-number : goal.invariant-loop-number
invariant-loop-number l = IsCandidate l.sorting.signature (ways l.operator) l.alive (take l.number-index l.alive) (sorted_of l.least)
