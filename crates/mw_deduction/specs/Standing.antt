-- Where a reduction stands: operators whose arguments are being reduced, on flattened terms, and the term in hand.
use Rattle.std.specs.Prelude.{ℕ, suc, ◌≡◌, ◌<◌, ◌^◌, List, [], ◌∷◌, ◌++◌, true, IsFalse, ⊤}
use Rattle.mw_logic.specs.Term.{RawTerm, RawTerms, numeral, cons, join, Context, plug}
use Rattle.mw_logic.specs.Signature.{Signature, IsRawTerm, IsSuccessor}
use Rattle.mw_logic.specs.Axioms.{EqualModulo}
use Rattle.mw_logic.specs.Parts.{is_assoc, nested, all_nested, number_of_terms, IsAdmitted}
use Rattle.mw_logic.specs.NormalForm.{identity_of, is_identity, applied_in}
use Rattle.mw_logic.specs.Substitution.{Substitution}
use Rattle.mw_logic.specs.Module.{Fragment, Module}
use Rattle.mw_logic.specs.Proof.{Proofs}
use Rattle.mw_logic.specs.Judgements.{Leads, AdmittedStep}
use Rattle.mw_logic.proofs.Canonical.{Each, IsElement, IsCanonical, AreCanonical}
use Rattle.mw_logic.proofs.Soundness.{IsLong}
use Rattle.mw_deduction.specs.Places.{Place, levels_of, context_of}
use Rattle.mw_deduction.specs.Reading.{Reading}
use Rattle.mw_deduction.specs.Chains.{proof_of}

-- an operator, and the flattened terms before and after the hole
pub record Open : Type 0 where
  pub operator : ℕ
  pub before : RawTerms
  pub after : RawTerms

-- what it is with a term in the hole
abbrev pub filled : Signature → Open → RawTerm → RawTerm
filled sig o t = applied_in sig o.operator (join o.before (cons t o.after))

-- the context that the open operators are, the innermost first, and the levels of their holes
abbrev pub context_at : Signature → Open → Context
context_at sig o = context_of (is_assoc sig o.operator) o.operator (all_nested sig o.before) (all_nested sig o.after)

abbrev pub round : Signature → List Open → Context
round sig [] = []
round sig (o ∷ os) = context_at sig o ++ round sig os

abbrev pub entered_of : Signature → List Open → List Place
entered_of sig [] = []
entered_of sig (o ∷ os) = levels_of (is_assoc sig o.operator) (number_of_terms o.before) (number_of_terms o.after) ∷ entered_of sig os

-- What stands beside the hole is canonical; under an associative operator each is an element of it, and there is one at least.
pub record IsClear (sig : Signature) (o : Open) : Type 0 where
  pub before : AreCanonical sig o.before
  pub after : AreCanonical sig o.after
  pub before_elements : is_assoc sig o.operator ≡ true → Each (IsElement (identity_of sig o.operator) o.operator) o.before
  pub after_elements : is_assoc sig o.operator ≡ true → Each (IsElement (identity_of sig o.operator) o.operator) o.after
  pub others : is_assoc sig o.operator ≡ true → IsLong (join o.before o.after)

abbrev pub AreClear : Signature → List Open → Type 0
AreClear sig [] = ⊤
AreClear sig (o ∷ os) = IsClear sig o × AreClear sig os

-- The term in the hole is seen: it is not the identity of the operator above it, nor a numeral below `s_`. (A hidden one is left as it is.)
pub record IsSeenBy (sig : Signature) (o : Open) (t : RawTerm) : Type 0 where
  pub not_identity : is_assoc sig o.operator ≡ true → IsFalse (is_identity (identity_of sig o.operator) t)
  pub not_numeral : (n : ℕ) → IsSuccessor sig o.operator → t ≡ numeral n → suc n < 2 ^ 128 → ⊥

abbrev pub IsSeen : Signature → List Open → RawTerm → Type 0
IsSeen sig [] t = ⊤
IsSeen sig (o ∷ os) t = IsSeenBy sig o t

-- What was read leads from t0 to the whole, which is the open operators round the term in hand, modulo the axioms.
pub record At (M : Module) (H : List Fragment → Substitution → Proofs → Substitution → Type 0) (F : List Fragment → Substitution → Type 0) (t0 : RawTerm) (R : Reading) (os : List Open) (t : RawTerm) : Type 0 where
  pub whole : RawTerm
  pub leads : Leads M (AdmittedStep M) H F [] (proof_of R.done) t0 whole
  pub is : EqualModulo M.signature whole (plug (round M.signature os) (nested M.signature t))
  pub entered : R.entered ≡ entered_of M.signature os
  pub raw : IsRawTerm M.signature (plug (round M.signature os) (nested M.signature t))
  pub admitted : IsAdmitted M.signature (plug (round M.signature os) (nested M.signature t))
  pub clear : AreClear M.signature os
  pub canonical : IsCanonical M.signature t
