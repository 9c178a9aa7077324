-- A step by a row at the top of a canonical term.
use Rattle.std.specs.Prelude.{◌≡◌, ◌⊎◌, ◌<◌, ◌+◌, ℕ, List, [], ◌∷◌, length, Option, Some, None, IsTrue, codes, ⊤}
use Rattle.mw_logic.specs.Term.{RawTerm, RawTerms, numeral, apply, constant, is_ground}
use Rattle.mw_logic.specs.Terms.{terms_of}
use Rattle.mw_logic.specs.Accepted.{IsAccepted, IsWellSorted}
use Rattle.mw_logic.specs.Built.{HasBuiltIns}
use Rattle.mw_logic.specs.Signature.{Signature, IsRawTerm}
use Rattle.mw_logic.specs.Parts.{nested, IsClean, number_of_terms}
use Rattle.mw_logic.specs.NormalForm.{normal_form}
use Rattle.mw_logic.specs.Module.{IsPolymorphic, Row, MeetsRow, IsTooBigPair}
use Rattle.mw_arguments.specs.Places.{Takes}
use Rattle.mw_deduction.specs.Tops.{IsTop}
use Rattle.mw_builtin.specs.Schemata.{AreSchemataOf}
use Rattle.mw_builtin.specs.declared.pairs.Found.{Found}
use Rattle.mw_builtin.specs.declared.pairs.Found.TheVariants.{Number, Constant, TooBig}
use Rattle.mw_builtin.specs.declared.table.Schemata.{Schemata}
use Rattle.mw_builtin.specs.declared.step.Met.{Met}
use Rattle.mw_builtin.specs.declared.step.Met.TheVariants as met

-- w is the whole of t, or what these numbers take of its arguments, not all of them
abbrev pub IsTaken : Signature → Option (List ℕ) → RawTerm → RawTerm → Type 0
IsTaken sig None t w = w ≡ t
IsTaken sig (Some ks) t w = Takes sig ks t w × ((f : ℕ) (ts : RawTerms) → t ≡ apply f ts → length ks < number_of_terms ts)

-- a clean form of what is taken of t
pub record IsFormOf (sig : Signature) (take : Option (List ℕ)) (t form : RawTerm) : Type 0 where
  pub part : RawTerm
  pub taken : IsTaken sig take t part
  pub raw : IsRawTerm sig form
  pub clean : IsClean sig form
  pub is : normal_form sig form ≡ part

-- a canonical ground term
pub record IsGroundTerm (sig : Signature) (t : RawTerm) : Type 0 where
  pub raw : IsRawTerm sig (nested sig t)
  pub canonical : normal_form sig (nested sig t) ≡ t
  pub ground : IsTrue (is_ground t)

-- no clean form of a top part of t meets a row, or is a sum or product that is too big
pub record HasNoRow (sig : Signature) (t : RawTerm) : Type 0 where
  pub no_row : (w : RawTerm) → IsRawTerm sig w → IsClean sig w → IsTop sig t (normal_form sig w) → ¬ MeetsRow sig w
  pub no_pair : (w : RawTerm) → IsRawTerm sig w → IsClean sig w → IsTop sig t (normal_form sig w) → ¬ IsTooBigPair sig w

-- a row leads from a form of what is taken to a canonical ground term
pub record IsGiven (sig : Signature) (IsNormal : RawTerm → Type 0) (t : RawTerm) (take : Option (List ℕ)) (to : RawTerm) : Type 0 where
  pub form : RawTerm
  pub is_form : IsFormOf sig take t form
  pub meets : Row sig IsNormal form (nested sig to)
  pub term : IsGroundTerm sig to

-- a form of what is taken is a sum or product that is too big
pub record IsTooBigAt (sig : Signature) (t : RawTerm) (take : Option (List ℕ)) : Type 0 where
  pub form : RawTerm
  pub is_form : IsFormOf sig take t form
  pub too_big : IsTooBigPair sig form

-- what rows do at the top of t
abbrev pub IsStepOf : Signature → (RawTerm → Type 0) → RawTerm → Met → Type 0
IsStepOf sig IsNormal t met.Nothing = HasNoRow sig t
IsStepOf sig IsNormal t (met.Gives take to) = IsGiven sig IsNormal t take to
IsStepOf sig IsNormal t (met.TooBig take) = IsTooBigAt sig t take

-- f is a test of equality, or of the contrary
abbrev pub IsTestOf : Signature → ℕ → Type 0
IsTestOf sig f = IsPolymorphic sig f (codes "_==_") ⊎ IsPolymorphic sig f (codes "_=/=_")

-- f is a test, its first two arguments differ, and w is one of them, nested
pub record IsSide (sig : Signature) (f : ℕ) (args : List RawTerm) (w : RawTerm) : Type 0 where
  pub test : IsTestOf sig f
  pub first : RawTerm
  pub second : RawTerm
  pub rest : List RawTerm
  pub there : args ≡ first ∷ second ∷ rest
  pub differ : first ≡ second → ⊥
  pub is : (w ≡ nested sig first) ⊎ (w ≡ nested sig second)

-- any term, normal or not
abbrev pub IsAnyTerm : RawTerm → Type 0
IsAnyTerm t = ⊤

-- A canonical ground term, an operator on arguments, in a signature with these schemata.
pub record IsAsked (sig : Signature) (s : Schemata) (f : ℕ) (args : List RawTerm) : Type 0 where
  pub schemata : AreSchemataOf sig s
  pub accepted : IsAccepted sig
  pub sorted : IsWellSorted sig
  pub built : HasBuiltIns sig
  pub term : IsGroundTerm sig (apply f (terms_of args))

-- two neighbours by the index of the second, or the whole where there are two arguments
abbrev pub AreNeighbours : ℕ → ℕ → Option (List ℕ) → Type 0
AreNeighbours count index None = count ≡ 2
AreNeighbours count index (Some ks) = (ks ≡ index ∷ (index + 1) ∷ []) × (count ≡ 2 → ⊥)

-- a found number or constant in the place of what is taken
abbrev pub met_for : Option (List ℕ) → Found → Met
met_for take (Number n) = met.Gives take (numeral n)
met_for take (Constant c) = met.Gives take (constant c)
met_for take TooBig = met.TooBig take
