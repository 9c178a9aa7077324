-- When rows make one term of a part, and when none is met by terms that are not reducible.
use Rattle.std.specs.Prelude.{◌≡◌, ◌≢◌, ◌⊎◌, ℕ, Bool, true, codes}
use Rattle.mw_logic.specs.Term.{RawTerm, binary}
use Rattle.mw_logic.specs.Signature.{Signature}
use Rattle.mw_logic.specs.Accepted.{IsAccepted}
use Rattle.mw_logic.specs.Parts.{nested}
use Rattle.mw_logic.specs.NormalForm.{is_comm}
use Rattle.mw_logic.specs.Module.{Module, BuiltIn, result_of, IsBuiltIn, IsTruth, IsPolymorphic, Row}
use Rattle.mw_logic.specs.Confluence.{IsReducible}
use Rattle.mw_verdict.specs.Checks.{IsFormOf}
use Rattle.mw_verdict.specs.Exclusion.{HasOneRow}

-- each truth value is one constant
abbrev pub HasOneConstantEach : Signature → Type 0
HasOneConstantEach sig = (b : Bool) (t u : RawTerm) → IsTruth sig b t → IsTruth sig b u → t ≡ u

-- what computes of two numbers is commutative only where they may change places
abbrev pub AreSymmetric : Signature → Type 0
AreSymmetric sig = (f : ℕ) (b : BuiltIn) → IsBuiltIn sig f b → is_comm sig f ≡ true → (m n : ℕ) → result_of b m n ≡ result_of b n m

-- So the rows of a module make one term, whatever the axioms of its tests.
abbrev pub RowsAreOne : Type 0
RowsAreOne = (M : Module) → IsAccepted M.signature → HasOneConstantEach M.signature → AreSymmetric M.signature → HasOneRow M

-- A test of two canonical terms that differ, of which one is reducible, meets no row by terms that are not: so it is at fault for its condition.
abbrev pub ReducibleSides : Type 0
ReducibleSides =
    (M : Module) → IsAccepted M.signature → (n f : ℕ) (a b form result : RawTerm) → IsPolymorphic M.signature f (codes "_==_") ⊎ IsPolymorphic M.signature f (codes "_=/=_") → a ≢ b
    → IsReducible M n (nested M.signature a) ⊎ IsReducible M n (nested M.signature b) → IsFormOf M.signature (binary f a b) form → ¬ Row M.signature (λ v. ¬ IsReducible M n v) form result
