-- Which declarations of an operator are still alive behind some of its arguments: those that take the sorts of these.
use Rattle.std.specs.Prelude.{ℕ, ◌≡◌, ◌⊎◌, ◌↔◌, ◌<◌, ◌++◌, List, [], ◌∷◌, cond, length, map, slice_get, Option, Some, None, IsTrue, ⊤}
use Rattle.mw_logic.specs.Signature.{Signature, Sorted, kind, Declaration, Operator, SameKind, Member}
use Rattle.mw_logic.specs.Sorts.{IsBelow, swapped}
use Rattle.mw_logic.specs.Preregular.{IsSortOf, IsDeclarationOf}
use Rattle.mw_sorts.specs.Diagrams.{Row, Level}

-- an operator whose kinds and declarations are of the signature
pub record IsOperatorOf (sig : Signature) (o : Operator) : Type 0 where
  pub args : (K : ℕ) → Member K o.args → IsSortOf sig K
  pub result : IsSortOf sig o.result
  pub declarations : (d : Declaration) → Member d o.declarations → IsDeclarationOf sig o d
  pub comm : IsTrue o.comm → (K L : ℕ) × (o.args ≡ K ∷ L ∷ []) × SameKind sig K L

-- the declaration with its first two arguments exchanged
abbrev pub turned : Declaration → Declaration
turned d = record { args = swapped d.args; result = d.result }

-- an operator's declarations; behind them, of a commutative one, the same with their arguments exchanged
unfoldable pub ways : Operator → List Declaration
ways o = o.declarations ++ cond o.comm (map turned o.declarations) []

-- the first of these sorts are at or above the others
abbrev pub TakesFirst : Signature → List Sorted → List Sorted → Type 0
TakesFirst sig [] Ts = ⊤
TakesFirst sig (S ∷ Ss) [] = ⊥
TakesFirst sig (S ∷ Ss) (T ∷ Ts) = IsBelow sig S T × TakesFirst sig Ss Ts

-- the numbers of the declarations that take first arguments of these sorts
abbrev pub AreAlive : Signature → List Declaration → List Sorted → List ℕ → Type 0
AreAlive sig ds Ss alive = (j : ℕ) → Member j alive ↔ ((d : Declaration) × (slice_get ds j ≡ Some d) × TakesFirst sig Ss d.args)

-- numbers of declarations
abbrev pub AreNumbersOf : List Declaration → List ℕ → Type 0
AreNumbersOf ds alive = (j : ℕ) → Member j alive → j < length ds

-- declaration j takes the sort S as argument i, counted from 0
abbrev pub TakesAt : Signature → List Declaration → ℕ → Sorted → ℕ → Type 0
TakesAt sig ds i S j = (d : Declaration) × (T : Sorted) × (slice_get ds j ≡ Some d) × (slice_get d.args i ≡ Some T) × IsBelow sig S T

-- those of the declarations that take the sort S as argument i
abbrev pub Narrows : Signature → List Declaration → ℕ → Sorted → List ℕ → List ℕ → Type 0
Narrows sig ds i S alive narrowed = (j : ℕ) → Member j narrowed ↔ (Member j alive × TakesAt sig ds i S j)

-- lists of numbers of declarations
abbrev pub AreStatesOf : List Declaration → List (List ℕ) → Type 0
AreStatesOf ds states = (q : ℕ) (alive : List ℕ) → slice_get states q ≡ Some alive → AreNumbersOf ds alive

-- states keep their numbers
abbrev pub AreKept : List (List ℕ) → List (List ℕ) → Type 0
AreKept old new = (q : ℕ) (alive : List ℕ) → slice_get old q ≡ Some alive → slice_get new q ≡ Some alive

-- the first state, in which all declarations are alive, and no other
abbrev pub IsStart : List Declaration → List (List ℕ) → Type 0
IsStart ds states = (all : List ℕ) × (slice_get states 0 ≡ Some all) × ((q : ℕ) (l : List ℕ) → slice_get states q ≡ Some l → l ≡ all) × ((j : ℕ) → Member j all ↔ (j < length ds))

-- for the first entries a row says which of the states comes next
pub record IsRowOf (sig : Signature) (ds : List Declaration) (i : ℕ) (entries : List Sorted) (alive : List ℕ) (states : List (List ℕ)) (row : Row) : Type 0 where
  pub size : length row ≡ length entries
  pub next : (p : ℕ) (S : Sorted) → slice_get entries p ≡ Some S
      → (q : ℕ) × (narrowed : List ℕ) × (slice_get row p ≡ Some q) × (slice_get states q ≡ Some narrowed) × Narrows sig ds i S alive narrowed

-- each of these states is one of the old ones, or comes from the alive ones by an entry
abbrev pub ComeFrom : Signature → List Declaration → ℕ → List Sorted → List ℕ → List (List ℕ) → List (List ℕ) → Type 0
ComeFrom sig ds i entries alive old new = (q : ℕ) (narrowed : List ℕ) → slice_get new q ≡ Some narrowed
    → (slice_get old q ≡ Some narrowed) ⊎ ((p : ℕ) × (S : Sorted) × (slice_get entries p ≡ Some S) × Narrows sig ds i S alive narrowed)

-- a row for each state
pub record IsLevelOf (sig : Signature) (ds : List Declaration) (i : ℕ) (entries : List Sorted) (states next : List (List ℕ)) (level : Level) : Type 0 where
  pub size : length level ≡ length states
  pub rows : (q : ℕ) (alive : List ℕ) → slice_get states q ≡ Some alive → (row : Row) × (slice_get level q ≡ Some row) × IsRowOf sig ds i entries alive next row
  pub come : (q : ℕ) (narrowed : List ℕ) → slice_get next q ≡ Some narrowed
      → (r : ℕ) × (alive : List ℕ) × (p : ℕ) × (S : Sorted) × (slice_get states r ≡ Some alive) × (slice_get entries p ≡ Some S) × Narrows sig ds i S alive narrowed

-- R is the result of one of these declarations
abbrev pub IsResultAmong : List Declaration → List ℕ → Sorted → Type 0
IsResultAmong ds alive R = (j : ℕ) × (d : Declaration) × Member j alive × (slice_get ds j ≡ Some d) × (d.result ≡ R)

-- R is a result of these declarations, and at or below the others
pub record IsLeastAmong (sig : Signature) (ds : List Declaration) (alive : List ℕ) (R : Sorted) : Type 0 where
  pub among : IsResultAmong ds alive R
  pub least : (Q : Sorted) → IsResultAmong ds alive Q → IsBelow sig R Q

-- the least result of these declarations, the kind K where there are none, and nothing where none is least
abbrev pub IsEndOf : Signature → List Declaration → ℕ → List ℕ → Option Sorted → Type 0
IsEndOf sig ds K alive (Some R) = IsLeastAmong sig ds alive R ⊎ (((Q : Sorted) → IsResultAmong ds alive Q → ⊥) × (R ≡ kind K))
IsEndOf sig ds K alive None = ((Q : Sorted) × IsResultAmong ds alive Q) × ((R : Sorted) → IsLeastAmong sig ds alive R → ⊥)

-- what stands behind each state
pub record AreEndsOf (sig : Signature) (o : Operator) (states : List (List ℕ)) (ends : List (Option Sorted)) : Type 0 where
  pub size : length ends ≡ length states
  pub end : (q : ℕ) (alive : List ℕ) → slice_get states q ≡ Some alive → (e : Option Sorted) × (slice_get ends q ≡ Some e) × IsEndOf sig (ways o) o.result alive e

-- the results, where all are there, and else one that is not
abbrev pub AreAllThere : {X : Type 0} → List (Option X) → Option (List X) → Type 0
AreAllThere ends (Some results) = ends ≡ map Some results
AreAllThere ends None = (q : ℕ) × (slice_get ends q ≡ Some None)
