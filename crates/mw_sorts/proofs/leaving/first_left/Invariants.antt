use Rattle.std.proofs.Common.{◌≡◌, ◌<◌, ℕ}
use Rattle.std.specs.Prelude.{slice_get, Some}
use Rattle.mw_term.specs.Signatures.{sorted_of}
use Rattle.mw_term.specs.declared.signature.Sorted.{Sorted}
use Rattle.mw_sorts.specs.Leaving.{StaysLow}
use Rattle.mw_sorts.proofs.leaving.first_left.Given as goal

abbrev pub invariant-loop-entry : goal.invariant-loop-entry
invariant-loop-entry l = (m : ℕ) (T : Sorted) → m < l.entry-index → slice_get l.entry-items m ≡ Some T → StaysLow l.sorting.signature l.operator (sorted_of l.identity) (sorted_of T)
