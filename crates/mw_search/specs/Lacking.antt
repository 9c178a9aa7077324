-- Values that have the sorts of their positions, and values that lack them.
use Rattle.std.specs.Prelude.{◌≡◌, ◌≤◌, ℕ, List, [], ◌∷◌, ◌++◌, Some, slice_get, IsTrue, ⊤}
use Rattle.mw_logic.specs.Term.{RawTerm, is_ground}
use Rattle.mw_logic.specs.Signature.{Signature, sort, IsRawTerm}
use Rattle.mw_logic.specs.Parts.{nested}
use Rattle.mw_logic.specs.Sorts.{HasSort}
use Rattle.mw_logic.specs.NormalForm.{normal_form}
use Rattle.mw_matching.specs.Found.{Values}

-- a term of which the sorts can be told: it is canonical, raw and ground
pub record IsKnown (sig : Signature) (t : RawTerm) : Type 0 where
  pub canonical : normal_form sig (nested sig t) ≡ t
  pub raw : IsRawTerm sig (nested sig t)
  pub ground : IsTrue (is_ground t)

-- t has the sort of position i, where that has one
abbrev pub HasItsSort : Signature → List ℕ → ℕ → RawTerm → Type 0
HasItsSort sig sorts i t = (S : ℕ) → slice_get sorts i ≡ Some S → IsKnown sig t → HasSort sig (nested sig t) (sort S)

-- t lacks it
abbrev pub LacksItsSort : Signature → List ℕ → ℕ → RawTerm → Type 0
LacksItsSort sig sorts i t = (S : ℕ) × (slice_get sorts i ≡ Some S) × (IsKnown sig t → HasSort sig (nested sig t) (sort S) → ⊥)

-- each value from that position on has its sort
abbrev pub HaveTheirSorts : Signature → List ℕ → ℕ → Values → Type 0
HaveTheirSorts sig sorts given vs = (i : ℕ) (t : RawTerm) → given ≤ i → slice_get vs i ≡ Some t → HasItsSort sig sorts i t

-- a value from that position on lacks its sort
pub record OneLacksItsSort (sig : Signature) (sorts : List ℕ) (given : ℕ) (vs : Values) : Type 0 where
  pub position : ℕ
  pub value : RawTerm
  pub new : given ≤ position
  pub is : slice_get vs position ≡ Some value
  pub lacks : LacksItsSort sig sorts position value

-- each of a list is so
abbrev pub Each : {X : Type 0} → (X → Type 0) → List X → Type 0
Each P [] = ⊤
Each P (x ∷ xs) = P x × Each P xs

-- the old list is the new one behind some that are so
pub record Skips {X : Type 0} (P : X → Type 0) (old new : List X) : Type 0 where
  pub left : List X
  pub each : Each P left
  pub rest : old ≡ left ++ new
