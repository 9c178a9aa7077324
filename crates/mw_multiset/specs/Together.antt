-- Canonical terms under an associative and commutative operator, as multisets of their elements.
use Rattle.std.specs.Prelude.{◌≡◌, ◌≤◌, ℕ, List, All, true, false, IsTrue, IsFalse, ⊤}
use Rattle.mw_logic.specs.Term.{RawTerm, is_ground}
use Rattle.mw_logic.specs.Terms.{terms_of, list_of}
use Rattle.mw_logic.specs.Signature.{Signature}
use Rattle.mw_logic.specs.Parts.{nested, is_assoc, IsFrozenArgument}
use Rattle.mw_logic.specs.WellFormed.{IsWellFormed}
use Rattle.mw_logic.specs.NormalForm.{is_comm, identity_of, is_identity, elements, applied_in, normal_form, height, has_largest}
use Rattle.mw_logic.specs.Module.{Module}
use Rattle.mw_logic.proofs.Canonical.{Each, IsElement, IsCanonical}
use Rattle.mw_deduction.specs.Runs.{Done, by_statement, by_row, Dones, none, more}

-- no argument of f is frozen
abbrev pub IsOpenOperator : Signature → ℕ → Type 0
IsOpenOperator sig f = (i : ℕ) → ¬ IsFrozenArgument sig f i

-- The module is well-formed, and f joins multisets in it: it is associative and commutative, and rules may change its arguments.
pub record IsOfMultisets (M : Module) (f : ℕ) : Type 0 where
  pub well : IsWellFormed M
  pub assoc : is_assoc M.signature f ≡ true
  pub comm : is_comm M.signature f ≡ true
  pub free : IsOpenOperator M.signature f

-- a canonical term's elements under f: none for f's identity, itself where f doesn't stand on top
abbrev pub parts : Signature → ℕ → RawTerm → List RawTerm
parts sig f t = list_of (elements (identity_of sig f) f t)

-- f on a list of terms, as a canonical term
abbrev pub together : Signature → ℕ → List RawTerm → RawTerm
together sig f xs = applied_in sig f (terms_of xs)

-- x may stand among others under f: it is a canonical term that is one element, ground, not deeper than 999, and no number in it is too large
pub record IsMember (sig : Signature) (f : ℕ) (x : RawTerm) : Type 0 where
  pub canonical : IsCanonical sig x
  pub element : IsElement (identity_of sig f) f x
  pub ground : IsTrue (is_ground (nested sig x))
  pub low : height x ≤ 999
  pub small : has_largest sig x ≡ false

abbrev pub AreMembers : Signature → ℕ → List RawTerm → Type 0
AreMembers sig f xs = All (IsMember sig f) xs

-- no element is deeper than 999
abbrev pub IsShallow : Signature → ℕ → RawTerm → Type 0
IsShallow sig f t = Each (λ x. height x ≤ 999) (elements (identity_of sig f) f t)

-- A replacement may be made wherever its whole term stands under f: the whole before it isn't f's identity, and no element of the whole after it is deeper
-- than 999.
pub record StandsUnder (sig : Signature) (f : ℕ) (t u : RawTerm) : Type 0 where
  pub seen : IsFalse (is_identity (identity_of sig f) (normal_form sig t))
  pub shallow : IsShallow sig f (normal_form sig u)

abbrev pub DoneUnder : Signature → ℕ → Done → Type 0
DoneUnder sig f (by_statement k s rs t u) = StandsUnder sig f t u
DoneUnder sig f (by_row t u) = StandsUnder sig f t u

abbrev pub AllUnder : Signature → ℕ → Dones → Type 0
AllUnder sig f none = ⊤
AllUnder sig f (more d ds) = DoneUnder sig f d × AllUnder sig f ds
