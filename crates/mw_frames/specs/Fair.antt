-- What may stand under an operator as its arguments.
use Rattle.std.specs.Prelude.{◌≡◌, ℕ, true}
use Rattle.mw_logic.specs.Term.{RawTerm, RawTerms}
use Rattle.mw_logic.specs.Signature.{Signature, IsSuccessor}
use Rattle.mw_logic.specs.Parts.{is_assoc, number_of_terms}
use Rattle.mw_logic.specs.NormalForm.{identity_of}
use Rattle.mw_stack.specs.Hidden.{IsHiddenNumeral}
use Rattle.mw_logic.proofs.Canonical.{Each, IsElement, AreCanonical}

-- t may stand under f as one argument that is seen
pub record Stays (sig : Signature) (f : ℕ) (t : RawTerm) : Type 0 where
  pub element : is_assoc sig f ≡ true → IsElement (identity_of sig f) f t
  pub seen : ¬ IsHiddenNumeral sig f t

-- nothing of the arguments has to be flattened, and `s_` has one
pub record IsFair (sig : Signature) (f : ℕ) (ts : RawTerms) : Type 0 where
  pub canonical : AreCanonical sig ts
  pub elements : is_assoc sig f ≡ true → Each (IsElement (identity_of sig f) f) ts
  pub alone : IsSuccessor sig f → number_of_terms ts ≡ 1
