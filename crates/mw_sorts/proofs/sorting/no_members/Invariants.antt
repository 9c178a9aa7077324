use Rattle.std.proofs.Common.{◌≡◌, ℕ, [], length}
use Rattle.std.specs.Global.{Vec}
use Rattle.std.specs.Prelude.{slice_get, Some}
use Rattle.mw_sorts.proofs.sorting.no_members.Given as goal

abbrev pub invariant-loop : goal.invariant-loop
invariant-loop l = (length l.members.items ≡ l.index) × ((q : ℕ) (list : Vec ℕ) → slice_get l.members.items q ≡ Some list → list.items ≡ [])
