-- What an operator with two arguments of one kind gives, as a table over the places of this kind's sorts, and the last place, that of the kind. Places with
-- one row give the same as the first argument, and places with one column as the second one.
use Rattle.std.specs.Prelude.{ℕ, ◌≡◌, ◌<◌, ◌≤◌, List, [], ◌∷◌, length, slice_get, slice_index_or, Option, Some, None}
use Rattle.mw_logic.specs.Signature.{Sorted, Operator}
use Rattle.mw_term.specs.Signatures.{sorted_of}
use Rattle.mw_term.specs.declared.signature.Sorted.{Sorted as SortedHeld}
use Rattle.mw_sorting.specs.ComputedSorts.{IsResultOn}
use Rattle.mw_sorting.specs.PreregularModulo.{IsOfKind}
use Rattle.mw_sorts.specs.declared.diagram.Diagram.{Diagram}
use Rattle.mw_sorts.specs.declared.grouping.square.Square.{Square}
use Rattle.mw_sorts.specs.Entries.{place_in}
use Rattle.mw_sorts.specs.Diagrams.{Row, Level}
use Rattle.mw_sorts.specs.Sorting.{Sorting}

-- the diagram leads from S as first argument to row q
abbrev pub LeadsBy : List ℕ → Diagram → Sorted → ℕ → Type 0
LeadsBy places d S q = (level : Level) × (row : Row) × (slice_get d.levels 0 ≡ Some level) × (slice_get level 0 ≡ Some row) × (slice_get row (place_in places (length row) S) ≡ Some q)

-- from row q it leads by T as second argument to R
abbrev pub EndsBy : List ℕ → Diagram → ℕ → Sorted → SortedHeld → Type 0
EndsBy places d q T R = (level : Level) × (row : Row) × (end : ℕ) × (slice_get d.levels 1 ≡ Some level) × (slice_get level q ≡ Some row) × (slice_get row (place_in places (length row) T) ≡ Some end) × (slice_get d.ends end ≡ Some R)

-- the rows to which entries lead
pub record AreRowsOf (places : List ℕ) (d : Diagram) (entries : List Sorted) (rows : List ℕ) : Type 0 where
  pub size : length rows ≡ length entries
  pub each : (p : ℕ) (S : Sorted) (q : ℕ) → slice_get entries p ≡ Some S → LeadsBy places d S q → slice_get rows p ≡ Some q

-- the places, in a kind of so many entries, to which T leads from all rows
abbrev pub IsColumnOf : List ℕ → Diagram → ℕ → Sorted → List ℕ → Type 0
IsColumnOf places d width T column = (q : ℕ) (R : SortedHeld) → EndsBy places d q T R → slice_get column q ≡ Some (place_in places width (sorted_of R))

-- the columns of entries, by their numbers
pub record AreColumnsOf (places : List ℕ) (d : Diagram) (entries : List Sorted) (columns : List ℕ) (lists : List (List ℕ)) : Type 0 where
  pub size : length columns ≡ length entries
  pub each : (p : ℕ) (T : Sorted) → slice_get entries p ≡ Some T
      → (c : ℕ) × (column : List ℕ) × (slice_get columns p ≡ Some c) × (slice_get lists c ≡ Some column) × IsColumnOf places d (length entries) T column

-- the cells of row q: of each list what stands at place q
abbrev pub IsTurnedRow : List (List ℕ) → ℕ → List ℕ → Type 0
IsTurnedRow lists q cells = (c p : ℕ) (list : List ℕ) → slice_get lists c ≡ Some list → slice_get list q ≡ Some p → slice_get cells c ≡ Some p

-- the first rows of the lists turned round
abbrev pub AreTurned : ℕ → List (List ℕ) → List (List ℕ) → Type 0
AreTurned height lists rows = (q : ℕ) → q < height → (cells : List ℕ) × (slice_get rows q ≡ Some cells) × IsTurnedRow lists q cells

-- how many places there are
abbrev pub width : Square → ℕ
width q = length q.rows.items

-- the place of what the operator gives on those at places i and j
abbrev pub product : Square → ℕ → ℕ → ℕ
product q i j = slice_index_or (slice_index_or q.results (slice_index_or q.rows.items i 0) []) (slice_index_or q.columns.items j 0) 0

-- Each place has a row and a column, and what stands there is a place.
pub record IsSquare (q : Square) : Type 0 where
  pub size : length q.columns.items ≡ width q
  pub rows : (i : ℕ) → i < width q → slice_index_or q.rows.items i 0 < length q.results
  pub columns : (i j : ℕ) → i < width q → j < width q → slice_index_or q.columns.items j 0 < length (slice_index_or q.results (slice_index_or q.rows.items i 0) [])
  pub within : (i j : ℕ) → i < width q → j < width q → product q i j < width q

-- Each result of o on sorts of its kind, of which these are the entries, stands where the square says.
pub record IsSquareOf (sorting : Sorting) (o : Operator) (entries : List Sorted) (q : Square) : Type 0 where
  pub wide : width q ≡ length entries
  pub square : IsSquare q
  pub products : (S T R : Sorted) → IsOfKind sorting.signature o.result S → IsOfKind sorting.signature o.result T → IsResultOn sorting.signature o (S ∷ T ∷ []) R
      → place_in sorting.places (length entries) R ≡ product q (place_in sorting.places (length entries) S) (place_in sorting.places (length entries) T)

-- both groupings of three places give one place
abbrev pub Agrees : Square → ℕ → ℕ → ℕ → Type 0
Agrees q i j k = product q (product q i j) k ≡ product q i (product q j k)

-- the first place below n at which P doesn't hold, if there is one
abbrev pub IsFirstWithout : ℕ → (ℕ → Type 0) → Option ℕ → Type 0
IsFirstWithout n P None = (k : ℕ) → k < n → P k
IsFirstWithout n P (Some k) = (k < n) × (P k → ⊥) × ((l : ℕ) → l < k → P l)

-- the first two, and the first three, by the first difference
abbrev pub IsFirstPairWithout : ℕ → (ℕ → ℕ → Type 0) → Option (ℕ × ℕ) → Type 0
IsFirstPairWithout n P None = (j k : ℕ) → j < n → k < n → P j k
IsFirstPairWithout n P (Some p) = (p.0 < n) × IsFirstWithout n (P p.0) (Some p.1) × ((j k : ℕ) → j < p.0 → k < n → P j k)

abbrev pub IsFirstTripleWithout : ℕ → (ℕ → ℕ → ℕ → Type 0) → Option (ℕ × ℕ × ℕ) → Type 0
IsFirstTripleWithout n P None = (i j k : ℕ) → i < n → j < n → k < n → P i j k
IsFirstTripleWithout n P (Some t) = (t.0 < n) × IsFirstPairWithout n (P t.0) (Some (t.1, t.2)) × ((i j k : ℕ) → i < t.0 → j < n → k < n → P i j k)

-- Heads are places in ascending order: each place has one at or before it with the same row and column.
pub record AreHeads (rows columns heads : List ℕ) : Type 0 where
  pub rising : (m n i j : ℕ) → m < n → slice_get heads m ≡ Some i → slice_get heads n ≡ Some j → i < j
  pub within : (m i : ℕ) → slice_get heads m ≡ Some i → i < length rows
  pub all : (p : ℕ) → p < length rows
      → (m : ℕ) × (i : ℕ) × (slice_get heads m ≡ Some i) × (i ≤ p) × (slice_index_or rows i 0 ≡ slice_index_or rows p 0) × (slice_index_or columns i 0 ≡ slice_index_or columns p 0)
