use Rattle.std.proofs.Common.{◌≡◌, map, take}
use Rattle.mw_logic.specs.Signature.{sort}
use Rattle.mw_term.specs.Signatures.{sorted_of}
use Rattle.mw_sorts.proofs.sorting.Sorting.entries.Given as goal

abbrev pub invariant-loop-sort : goal.invariant-loop-sort
invariant-loop-sort l = map sorted_of l.entries.items ≡ map sort (take l.sort-index l.members)
