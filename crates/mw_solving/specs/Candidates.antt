-- Lists of values of variables among which the solutions of a pattern are told by sorts alone.
use Rattle.std.specs.Prelude.{ℕ, ◌≡◌, ◌≤◌, List, length, Some, slice_get}
use Rattle.std.specs.List.{zip}
use Rattle.mw_logic.specs.Term.{Variable, RawTerm}
use Rattle.mw_logic.specs.Signature.{Signature, Member, sort}
use Rattle.mw_logic.specs.Parts.{nested}
use Rattle.mw_logic.specs.Sorts.{HasSort}
use Rattle.mw_logic.specs.Substitution.{Substitution, IsSolution, SameSolution}
use Rattle.mw_canon.specs.Canonical.{meant}
use Rattle.mw_position.specs.Variables.{sorts_of}
use Rattle.mw_solving.specs.Values.{AreValues, AreOfSorts}

-- each value from place n on has the sort that stands at its place
abbrev pub AreOfSortsFrom : Signature → ℕ → List RawTerm → List ℕ → Type 0
AreOfSortsFrom sig n us Ss = (i : ℕ) (u : RawTerm) (S : ℕ) → n ≤ i → slice_get us i ≡ Some u → slice_get Ss i ≡ Some S → HasSort sig (nested sig u) (sort S)

-- The first n values were given. Each entry is a solution where the values behind these have their variables' sorts, and only there; each
-- solution is such an entry modulo the axioms, and no two entries are the same one.
pub record AreCandidates (sig : Signature) (p t : RawTerm) (s0 : Substitution) (n : ℕ) (xs : List Variable) (list : List (List RawTerm)) : Type 0 where
  pub values : (us : List RawTerm) → Member us list → AreValues sig us × (length us ≡ length xs)
  pub sound : (us : List RawTerm) → Member us list → AreOfSortsFrom sig n us (sorts_of xs) → IsSolution sig p t s0 (meant sig (zip xs us))
  pub sorted : (us : List RawTerm) → Member us list → IsSolution sig p t s0 (meant sig (zip xs us)) → AreOfSorts sig us (sorts_of xs)
  pub complete : (s : Substitution) → IsSolution sig p t s0 s → (us : List RawTerm) × Member us list × AreOfSorts sig us (sorts_of xs) × SameSolution sig s (meant sig (zip xs us))
  pub once : (i j : ℕ) (us ws : List RawTerm) → slice_get list i ≡ Some us → slice_get list j ≡ Some ws → SameSolution sig (meant sig (zip xs us)) (meant sig (zip xs ws)) → i ≡ j
