-- Diagrams in which a least result may lack: which rows lead to such a place, and the first walk to one.
use Rattle.std.specs.Prelude.{ℕ, ◌≡◌, ◌<◌, ◌++◌, List, [], ◌∷◌, length, map, Bool, true, false, Option, slice_get, slice_index_or, Some, None, ⊤}
use Rattle.std.specs.List.{list_any}
use Rattle.mw_logic.specs.Signature.{Signature, Sorted, Operator}
use Rattle.mw_logic.specs.Preregular.{AreOfKinds}
use Rattle.mw_sorts.specs.Diagrams.{Row, Level, LeadsTo}
use Rattle.mw_sorts.specs.Results.{IsEndOn, LacksLeastResult}
use Rattle.mw_sorts.specs.Sorting.{Sorting, AreEntriesOf}

-- how many rows the first level has, or how many ends there are
abbrev pub width : List Level → ℕ → ℕ
width [] ends = ends
width (l ∷ ls) ends = length l

-- rows lead to rows of the next level, or to an end
abbrev pub AreLinked : List Level → ℕ → Type 0
AreLinked [] ends = ⊤
AreLinked (l ∷ ls) ends = ((q : ℕ) (row : Row) (p next : ℕ) → slice_get l q ≡ Some row → slice_get row p ≡ Some next → next < width ls ends) × AreLinked ls ends

-- each level has the entries of its argument's kind, one in each place of a row
abbrev pub HaveEntries : Sorting → List Level → List (List Sorted) → List ℕ → Type 0
HaveEntries sorting [] [] [] = ⊤
HaveEntries sorting [] [] (K ∷ Ks) = ⊥
HaveEntries sorting [] (es ∷ ess) Ks = ⊥
HaveEntries sorting (l ∷ ls) [] Ks = ⊥
HaveEntries sorting (l ∷ ls) (es ∷ ess) [] = ⊥
HaveEntries sorting (l ∷ ls) (es ∷ ess) (K ∷ Ks) =
    AreEntriesOf sorting K es × ((q : ℕ) (row : Row) → slice_get l q ≡ Some row → length row ≡ length es) × HaveEntries sorting ls ess Ks

-- what stands at number q is the end on these sorts
abbrev pub EndsAt : Signature → Operator → List (Option Sorted) → List Sorted → ℕ → Type 0
EndsAt sig o ends Ss q = (end : Option Sorted) × (slice_get ends q ≡ Some end) × IsEndOn sig o Ss end

-- The levels lead to o's results, and where one of these lacks, there are sorts on which it does.
pub record IsDrawn (sorting : Sorting) (o : Operator) (levels : List Level) (entries : List (List Sorted)) (ends : List (Option Sorted)) : Type 0 where
  pub leads : LeadsTo sorting.signature sorting.places levels 0 o.args (EndsAt sorting.signature o ends)
  pub linked : AreLinked levels (length ends)
  pub listed : HaveEntries sorting levels entries o.args
  pub reached : (q : ℕ) → slice_get ends q ≡ Some None → (Ss : List Sorted) × AreOfKinds sorting.signature Ss o.args × LacksLeastResult sorting.signature o Ss

-- one of the next rows is marked
abbrev pub is_marked : List Bool → Row → Bool
is_marked marks row = list_any (λ q. slice_index_or marks q false) row

-- which rows of the first level lead to a marked end
abbrev pub marks_of : List Level → List Bool → List Bool
marks_of [] missing = missing
marks_of (l ∷ ls) missing = map (is_marked (marks_of ls missing)) l

-- the marks behind each level, those behind the first one last
abbrev pub marks_behind : List Level → List Bool → List (List Bool)
marks_behind [] missing = []
marks_behind (l ∷ ls) missing = marks_behind ls missing ++ marks_of ls missing ∷ []

-- From row q each step takes the first entry that leads to a marked end, and the last one ends there. These are the entries.
abbrev pub IsFirstWalk : List Level → List Bool → ℕ → List (List Sorted) → List Sorted → Type 0
IsFirstWalk [] missing q [] [] = slice_index_or missing q false ≡ true
IsFirstWalk [] missing q [] (T ∷ Ts) = ⊥
IsFirstWalk [] missing q (es ∷ ess) Ts = ⊥
IsFirstWalk (l ∷ ls) missing q [] Ts = ⊥
IsFirstWalk (l ∷ ls) missing q (es ∷ ess) [] = ⊥
IsFirstWalk (l ∷ ls) missing q (es ∷ ess) (T ∷ Ts) =
    (row : Row) × (p next : ℕ) × (slice_get l q ≡ Some row) × (slice_get es p ≡ Some T) × (slice_get row p ≡ Some next)
    × ((j other : ℕ) → j < p → slice_get row j ≡ Some other → slice_index_or (marks_of ls missing) other false ≡ false)
    × IsFirstWalk ls missing next ess Ts

-- the first place that leads to a mark, if there is one
abbrev pub IsFirstMarked : Row → List Bool → Option ℕ → Type 0
IsFirstMarked row marks (Some p) =
    ((next : ℕ) × (slice_get row p ≡ Some next) × (slice_index_or marks next false ≡ true))
    × ((j other : ℕ) → j < p → slice_get row j ≡ Some other → slice_index_or marks other false ≡ false)
IsFirstMarked row marks None = (j other : ℕ) → slice_get row j ≡ Some other → slice_index_or marks other false ≡ false

-- from row q the first entry that leads to a mark, and the row that it leads to
pub record IsFirstStep (level : Level) (marks : List Bool) (q : ℕ) (entries : List Sorted) (T : Sorted) (next : ℕ) : Type 0 where
  pub row : Row
  pub place : ℕ
  pub at_row : slice_get level q ≡ Some row
  pub entry : slice_get entries place ≡ Some T
  pub leads : slice_get row place ≡ Some next
  pub earlier : (j other : ℕ) → j < place → slice_get row j ≡ Some other → slice_index_or marks other false ≡ false
  pub marked : slice_index_or marks next false ≡ true
