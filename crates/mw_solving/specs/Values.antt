-- What is matched and what variables get: canonical terms, flattened, that mean ground raw terms.
use Rattle.std.specs.Prelude.{ℕ, ◌≡◌, List, Some, slice_get, IsTrue, Bool, true}
use Rattle.mw_logic.specs.Term.{RawTerm, is_ground}
use Rattle.mw_logic.specs.Signature.{Signature, IsRawTerm, sort}
use Rattle.mw_logic.specs.Sorts.{HasSort}
use Rattle.mw_logic.specs.Parts.{nested}
use Rattle.mw_logic.specs.NormalForm.{identity_of}
use Rattle.mw_logic.proofs.Canonical.{IsCanonical}
use Rattle.mw_matching.specs.Found.{is_among, is_element, operators_at}

pub record IsValue (sig : Signature) (u : RawTerm) : Type 0 where
  pub canonical : IsCanonical sig u
  pub raw : IsRawTerm sig (nested sig u)
  pub ground : IsTrue (is_ground (nested sig u))

-- each of a list
abbrev pub AreValues : Signature → List RawTerm → Type 0
AreValues sig us = (i : ℕ) (u : RawTerm) → slice_get us i ≡ Some u → IsValue sig u

-- each has the sort that stands at its place
abbrev pub AreOfSorts : Signature → List RawTerm → List ℕ → Type 0
AreOfSorts sig us Ss = (i : ℕ) (u : RawTerm) (S : ℕ) → slice_get us i ≡ Some u → slice_get Ss i ≡ Some S → HasSort sig (nested sig u) (sort S)

-- A position lists operators. A value that has the position's sort is one element under each of them.
abbrev pub AreSure : Signature → List (List ℕ) → List ℕ → Type 0
AreSure sig single Ss =
    (i f S : ℕ) (u : RawTerm) → is_among f (operators_at single i) ≡ true → slice_get Ss i ≡ Some S → IsValue sig u → HasSort sig (nested sig u) (sort S)
    → is_element (identity_of sig f) f u ≡ true

-- what has the sort of a position may stand there
abbrev pub MayStand : Signature → (ℕ → RawTerm → Bool) → List ℕ → Type 0
MayStand sig has Ss = (i S : ℕ) (u : RawTerm) → slice_get Ss i ≡ Some S → IsValue sig u → HasSort sig (nested sig u) (sort S) → has i u ≡ true
