-- The sorts of a module in the order of its subsort statements, and their kinds. (Maude Manual, chapter 3, "Sorts and subsorts" and "Kinds".)
use Rattle.std.specs.Prelude.{◌≡◌, ℕ, zero, suc, List, [], ◌∷◌, ◌++◌, map, length, Bool, nat_eq, if◌then◌else◌}
use Rattle.mw_logic.specs.Signature.{Sorted, sort, kind}
use Rattle.mw_logic.specs.Kinds.{renamed_sort, joining_kinds}
use Rattle.mw_poset.specs.SortOrder.{SortOrder}
use Rattle.mw_poset.specs.Order.{IsSort, ArePairsOf}
use Rattle.mw_module.specs.Forms.{Shape, Sorts, Subsorts, Operators, Variables, Statement, Import, Class}
use Rattle.mw_module.specs.Sortings.{WrittenSort}
use Rattle.mw_module.specs.Units.{SeenLined}
use Rattle.mw_declare.specs.Meaning.{Name, sorts_of, number_of, numbers_of}

-- The sorts of a module by name, with the pairs of its subsort statements: a sort and one directly above it.
pub record Hierarchy : Type 0 where
  pub names : List Name
  pub pairs : List (ℕ × ℕ)

-- each of the first sorts with each of the second
abbrev pub pairs_between : List ℕ → List ℕ → List (ℕ × ℕ)
pairs_between [] uppers = []
pairs_between (S ∷ lowers) uppers = map (λ (T : ℕ). (S, T)) uppers ++ pairs_between lowers uppers

-- each sort of a group with each of the next, where `lowers` is the group before
abbrev pub pairs_behind : List Name → List ℕ → List (List Name) → List (ℕ × ℕ)
pairs_behind sorts lowers [] = []
pairs_behind sorts lowers (g ∷ gs) = pairs_between lowers (numbers_of sorts g) ++ pairs_behind sorts (numbers_of sorts g) gs

-- the pairs of a statement
abbrev pub pairs_in : List Name → Shape → List (ℕ × ℕ)
pairs_in sorts (Sorts names) = []
pairs_in sorts (Subsorts groups) = pairs_behind sorts [] groups
pairs_in sorts (Operators names args result said) = []
pairs_in sorts (Variables names S) = []
pairs_in sorts (Statement rule left right fragments executable) = []
pairs_in sorts (Import m) = []
pairs_in sorts (Class c as_) = []

abbrev pub pairs_from : List Name → List SeenLined → List (ℕ × ℕ)
pairs_from sorts [] = []
pairs_from sorts (s ∷ rest) = pairs_in sorts s.shape ++ pairs_from sorts rest

abbrev pub hierarchy_of : List SeenLined → Hierarchy
hierarchy_of statements = record { names = sorts_of statements; pairs = pairs_from (sorts_of statements) statements }

-- the first of so many numbers, counted from this one, that passes a test; where none does, the one behind them
abbrev pub first_from : (ℕ → Bool) → ℕ → ℕ → ℕ
first_from test zero T = T
first_from test (suc left) T = if test T then T else first_from test left (suc T)

-- the two sorts are of one kind, where these are the pairs
abbrev pub are_connected : List (ℕ × ℕ) → ℕ → ℕ → Bool
are_connected pairs S T = nat_eq (renamed_sort (joining_kinds pairs []) S) (renamed_sort (joining_kinds pairs []) T)

-- the kind of a sort, by the least of its sorts
unfoldable pub kind_of : Hierarchy → ℕ → ℕ
kind_of h S = first_from (are_connected h.pairs S) (length h.names) 1

abbrev pub kind_in : Hierarchy → WrittenSort → ℕ
kind_in h s = kind_of h (number_of h.names s.name)

-- the sort that is written, or its kind
abbrev pub sorted_in : Hierarchy → WrittenSort → Sorted
sorted_in h s = if s.kind then kind (kind_in h s) else sort (number_of h.names s.name)

-- K names the kind of a sort that is there
abbrev pub IsLeastKind : Hierarchy → ℕ → Type 0
IsLeastKind h K = (S : ℕ) × IsSort (length h.names) S × (K ≡ kind_of h S)

-- the sorts by number, with the pairs
abbrev pub order_of : Hierarchy → SortOrder
order_of h = record { sorts = length h.names; pairs = h.pairs }

-- what keeps the order of sorts for their names and pairs: each pair is of two of the sorts
pub record IsHeld (h : Hierarchy) (order : SortOrder) : Type 0 where
  pub same : order ≡ order_of h
  pub within : ArePairsOf (length h.names) h.pairs
