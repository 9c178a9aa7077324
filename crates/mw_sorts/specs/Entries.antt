-- What stands for a kind's terms in a table: the sorts of the kind by number, and the kind itself behind them.
use Rattle.std.specs.Prelude.{ℕ, ◌≡◌, ◌⊎◌, ◌-◌, ◌<◌, List, [], ◌∷◌, ⊤, slice_index_or}
use Rattle.mw_logic.specs.Signature.{Signature, Sorted, sort, kind, SameKind}

-- S is a sort of K's kind, or the kind by the number K
abbrev pub IsEntry : Signature → ℕ → Sorted → Type 0
IsEntry sig K (sort S) = SameKind sig S K
IsEntry sig K (kind L) = L ≡ K

-- entries of these kinds, one by one
abbrev pub AreEntries : Signature → List Sorted → List ℕ → Type 0
AreEntries sig [] [] = ⊤
AreEntries sig [] (K ∷ Ks) = ⊥
AreEntries sig (S ∷ Ss) [] = ⊥
AreEntries sig (S ∷ Ss) (K ∷ Ks) = IsEntry sig K S × AreEntries sig Ss Ks

-- a sort stands before one of a greater number, and before each kind
abbrev pub IsBefore : Sorted → Sorted → Type 0
IsBefore (sort S) (sort T) = S < T
IsBefore (sort S) (kind L) = ⊤
IsBefore (kind K) (sort T) = ⊥
IsBefore (kind K) (kind L) = ⊥

-- one sort, or two kinds
abbrev pub IsLevelWith : Sorted → Sorted → Type 0
IsLevelWith (sort S) (sort T) = S ≡ T
IsLevelWith (sort S) (kind L) = ⊥
IsLevelWith (kind K) (sort T) = ⊥
IsLevelWith (kind K) (kind L) = ⊤

-- the first place at which they differ decides
abbrev pub Precedes : List Sorted → List Sorted → Type 0
Precedes [] Ts = ⊥
Precedes (S ∷ Ss) [] = ⊥
Precedes (S ∷ Ss) (T ∷ Ts) = IsBefore S T ⊎ (IsLevelWith S T × Precedes Ss Ts)

-- Where S stands in a row of so many places: a sort at its place among the sorts of its kind, a kind at the end.
abbrev pub place_in : List ℕ → ℕ → Sorted → ℕ
place_in places width (sort S) = slice_index_or places (S - 1) 0
place_in places width (kind K) = width - 1
