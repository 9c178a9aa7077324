-- What an order of sorts keeps: lists of direct supersorts, the kinds and their sorts, and rows of what is above.
use Rattle.std.specs.Prelude.{ℕ, suc, ◌≡◌, ◌*◌, ◌<◌, ◌≤◌, ◌↔◌, List, [], ◌∷◌, ◌++◌, length, map, All, nat_eq, slice_index, slice_index_or, if◌then◌else◌}
use Rattle.mw_logic.specs.Signature.{Signature, Member, SameKind}
use Rattle.mw_logic.specs.Sorts.{AtOrBelow}
use Rattle.mw_poset.specs.SortOrder.{SortOrder}
use Rattle.mw_poset.specs.Order.{IsSort, ArePairsOf, IsKindOf}
use Rattle.mw_poset.specs.Groups.{AreGroups, group_of}
use Rattle.mw_poset.specs.Row.{HasPlace}

-- the sorts directly above S, in the order of the pairs
abbrev pub supersorts : List (ℕ × ℕ) → ℕ → List ℕ
supersorts [] S = []
supersorts (p ∷ ps) S = if nat_eq p.0 S then p.1 ∷ supersorts ps S else supersorts ps S

-- the pairs, and all of them turned round
abbrev pub turned_too : List (ℕ × ℕ) → List (ℕ × ℕ)
turned_too pairs = pairs ++ map (λ p. (p.1, p.0)) pairs

-- each pair stands there turned round too
abbrev pub IsSymmetric : List (ℕ × ℕ) → Type 0
IsSymmetric pairs = (S T : ℕ) → Member (S, T) pairs → Member (T, S) pairs

-- a list of its direct supersorts for each sort
pub record AreListsOf (sorts : ℕ) (pairs : List (ℕ × ℕ)) (above : List (List ℕ)) : Type 0 where
  pub size : length above ≡ sorts
  pub direct : (k : ℕ) → k < sorts → slice_index_or above k [] ≡ supersorts pairs (suc k)

-- what is kept with the pairs, whose sorts are all there
pub record AreLinks (sorts : ℕ) (pairs : List (ℕ × ℕ)) (above : List (List ℕ)) : Type 0 where
  pub lists : AreListsOf sorts pairs above
  pub within : ArePairsOf sorts pairs

-- K is the least that is at or above S
pub record IsLeastReached (pairs : List (ℕ × ℕ)) (S K : ℕ) : Type 0 where
  pub reached : AtOrBelow pairs S K
  pub least : (T : ℕ) → AtOrBelow pairs S T → K ≤ T

-- of each sort the least that is at or above it
pub record AreLeastReached (order : SortOrder) (kinds : List ℕ) : Type 0 where
  pub size : length kinds ≡ order.sorts
  pub exact : (k : ℕ) → k < order.sorts → IsLeastReached order.pairs (suc k) (slice_index kinds k)

-- S and T are of one kind, in each signature that has these pairs
abbrev pub AreOfOneKind : List (ℕ × ℕ) → ℕ → ℕ → Type 0
AreOfOneKind pairs S T = (sig : Signature) → sig.pairs ≡ pairs → SameKind sig S T

-- of each sort the least of its kind
pub record AreKinds (order : SortOrder) (kinds : List ℕ) : Type 0 where
  pub size : length kinds ≡ order.sorts
  pub within : All (IsSort order.sorts) kinds
  pub exact : (k : ℕ) → k < order.sorts → IsKindOf order.pairs (suc k) (slice_index kinds k)

-- a place for each sort of a kind; in the row are the places of those at or above S
pub record IsRow (pairs : List (ℕ × ℕ)) (S : ℕ) (group row : List ℕ) : Type 0 where
  pub room : length group < 64 * length row
  pub exact : (i : ℕ) → i < length group → HasPlace row i ↔ AtOrBelow pairs S (slice_index group i)

-- of each of the first sorts the row over its kind
pub record AreRows (order : SortOrder) (sorts : ℕ) (kinds : List ℕ) (members rows : List (List ℕ)) : Type 0 where
  pub size : length rows ≡ sorts
  pub exact : (k : ℕ) → k < sorts → IsRow order.pairs (suc k) (group_of members (slice_index kinds k)) (slice_index_or rows k [])

-- what is kept of an order
pub record IsOrder (order : SortOrder) (kinds : List ℕ) (members : List (List ℕ)) (places : List ℕ) (rows : List (List ℕ)) : Type 0 where
  pub within : ArePairsOf order.sorts order.pairs
  pub kinds_are : AreKinds order kinds
  pub groups : AreGroups order.sorts kinds members places
  pub rows_are : AreRows order order.sorts kinds members rows
