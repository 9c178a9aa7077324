-- A signature's sorts with their order, their kinds, and the place of each sort in its kind.
use Rattle.std.specs.Prelude.{ℕ, suc, ◌≡◌, ◌-◌, ◌<◌, ◌≤◌, List, length, slice_get, slice_index_or, Some}
use Rattle.std.specs.Global.{Vec}
use Rattle.mw_logic.specs.Signature.{Signature, Sorted, SameKind, at_number}
use Rattle.mw_logic.specs.Sorts.{IsBelow}
use Rattle.mw_logic.specs.Accepted.{number_of_sort}
use Rattle.mw_logic.specs.Preregular.{HasItsSorts}
use Rattle.mw_poset.specs.SortOrder.{SortOrder, order_of}
use Rattle.mw_poset.specs.Order.{IsKindOf}
use Rattle.mw_sorts.specs.Entries.{IsEntry, IsBefore, place_in}

-- a signature, and of each sort its place among the sorts of its kind
pub record Sorting : Type 0 where
  pub signature : Signature
  pub places : List ℕ

-- S stands at place p of the list of kind K
abbrev pub StandsAt : List (Vec ℕ) → ℕ → ℕ → ℕ → Type 0
StandsAt members K p S = (list : Vec ℕ) × (at_number members K ≡ Some list) × (slice_get list.items p ≡ Some S)

-- The first sorts, each in the list of its kind, in ascending order, and the place of each there.
pub record ArePlacesOf (sig : Signature) (sorts : ℕ) (places : List ℕ) (members : List (Vec ℕ)) : Type 0 where
  pub size : length places ≡ sorts
  pub kinds : length members ≡ length sig.sorts
  pub placed : (k K : ℕ) → k < sorts → IsKindOf sig.pairs (suc k) K → StandsAt members K (slice_index_or places k 0) (suc k)
  pub held : (K p S : ℕ) → StandsAt members K p S → (1 ≤ S) × (S ≤ sorts) × IsKindOf sig.pairs S K × (slice_index_or places (S - 1) 0 ≡ p)
  pub rising : (j k K : ℕ) → j < k → k < sorts → IsKindOf sig.pairs (suc j) K → IsKindOf sig.pairs (suc k) K → slice_index_or places j 0 < slice_index_or places k 0

-- what is kept of a signature's sorts
pub record IsSorting (sig : Signature) (order : SortOrder) (places : List ℕ) (members : List (Vec ℕ)) : Type 0 where
  pub sorts : HasItsSorts sig
  pub in_order : order ≡ order_of sig
  pub placed : ArePlacesOf sig (length sig.sorts) places members

-- The entries of K's kind, each at its place.
pub record AreEntriesOf (sorting : Sorting) (K : ℕ) (entries : List Sorted) : Type 0 where
  pub of_kind : (p : ℕ) (S : Sorted) → slice_get entries p ≡ Some S → SameKind sorting.signature (number_of_sort S) K
  pub entry : (p : ℕ) (S : Sorted) → slice_get entries p ≡ Some S → IsEntry sorting.signature K S
  pub at_place : (p : ℕ) (S : Sorted) → slice_get entries p ≡ Some S → place_in sorting.places (length entries) S ≡ p
  pub all : (S : Sorted) → SameKind sorting.signature (number_of_sort S) K
      → (T : Sorted) × (slice_get entries (place_in sorting.places (length entries) S) ≡ Some T) × IsBelow sorting.signature S T × IsBelow sorting.signature T S
  pub in_order : (S T : Sorted) → SameKind sorting.signature (number_of_sort S) K → SameKind sorting.signature (number_of_sort T) K → IsBefore S T
      → place_in sorting.places (length entries) S < place_in sorting.places (length entries) T
