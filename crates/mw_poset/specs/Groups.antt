-- Sorts by their kinds: the list of each kind's sorts, and each sort's place in it.
use Rattle.std.specs.Prelude.{ℕ, suc, ◌≡◌, ◌-◌, ◌<◌, List, [], length, slice_index, slice_index_or}
use Rattle.std.specs.List.Sorted.{IsStrictlyIncreasing}
use Rattle.mw_logic.specs.Signature.{Member}
use Rattle.mw_poset.specs.Order.{IsSort}

-- the sorts of a kind stand in the list of its least sort
abbrev pub group_of : List (List ℕ) → ℕ → List ℕ
group_of members K = slice_index_or members (K - 1) []

-- the first sorts: each stands at its place among those of its kind, which are those with that kind, in order
pub record AreGroups (sorts : ℕ) (kinds : List ℕ) (members : List (List ℕ)) (places : List ℕ) : Type 0 where
  pub lists : length members ≡ length kinds
  pub size : length places ≡ sorts
  pub placed : (k : ℕ) → k < sorts → slice_index places k < length (group_of members (slice_index kinds k))
  pub there : (k : ℕ) → k < sorts → slice_index (group_of members (slice_index kinds k)) (slice_index places k) ≡ suc k
  pub listed : (K S : ℕ) → IsSort (length kinds) K → Member S (group_of members K) → IsSort sorts S × (slice_index kinds (S - 1) ≡ K)
  pub in_order : (K : ℕ) → IsSort (length kinds) K → IsStrictlyIncreasing (group_of members K)
