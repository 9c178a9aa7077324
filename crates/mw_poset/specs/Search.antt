-- Searches, and one step of a search: sorts are marked, and those that are new wait.
use Rattle.std.specs.Prelude.{ℕ, zero, suc, ◌≡◌, ◌⊎◌, ◌↔◌, ◌+◌, List, length, nat_eq, sum_by, slice_index, if◌then◌else◌}
use Rattle.mw_logic.specs.Signature.{Member}
use Rattle.mw_logic.specs.Sorts.{AtOrBelow}
use Rattle.mw_poset.specs.SortOrder.{SortOrder}

-- S has the mark: there is a place for each sort
abbrev pub IsMarked : ℕ → List ℕ → ℕ → Type 0
IsMarked mark marks zero = ⊥
IsMarked mark marks (suc k) = slice_index marks k ≡ mark

-- how many do not have the mark
abbrev pub unmarked : ℕ → List ℕ → ℕ
unmarked mark marks = sum_by (λ m. if nat_eq m mark then 0 else 1) marks

-- a place has the mark, or what stood there
abbrev pub IsWrittenOver : ℕ → List ℕ → List ℕ → Type 0
IsWrittenOver mark old new = (k : ℕ) → (slice_index new k ≡ mark) ⊎ (slice_index new k ≡ slice_index old k)

-- From the old marks to the new ones: these sorts are marked besides, and those of them that did not have the mark before wait, behind those that waited.
pub record Marks (mark : ℕ) (sorts : List ℕ) (old new : List ℕ) (waited waiting : List ℕ) : Type 0 where
  pub kept : (S : ℕ) → IsMarked mark old S → IsMarked mark new S
  pub all : (S : ℕ) → Member S sorts → IsMarked mark new S
  pub only : (S : ℕ) → IsMarked mark new S → IsMarked mark old S ⊎ (Member S sorts × Member S waiting)
  pub others : IsWrittenOver mark old new
  pub still : (S : ℕ) → Member S waited → Member S waiting
  pub waits : (S : ℕ) → Member S waiting → Member S waited ⊎ Member S sorts
  pub count : unmarked mark new + length waiting ≡ unmarked mark old + length waited

-- what is at or above S has S's mark now, and nothing else changed
pub record AreMarked (order : SortOrder) (S : ℕ) (old new : List ℕ) : Type 0 where
  pub reached : (T : ℕ) → IsMarked S new T ↔ AtOrBelow order.pairs S T
  pub others : IsWrittenOver S old new
