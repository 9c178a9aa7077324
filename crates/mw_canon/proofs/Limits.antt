-- What the limits on a built term say of the term that it is built of.
use Rattle.std.specs.Prelude.{◌≡◌, ◌≤◌, ◌<◌, Bool, false}
use Rattle.std.proofs.Common.{arith, ap, subst, sym, ◌∙◌}
use Rattle.std.proofs.lemmas.Bool.{both_ways}
use Rattle.mw_logic.specs.Term.{RawTerm}
use Rattle.mw_logic.specs.Signature.{Signature, IsRawTerm}
use Rattle.mw_logic.specs.Accepted.{IsAccepted}
use Rattle.mw_logic.specs.Parts.{IsTooDeep, IsTooLarge}
use Rattle.mw_logic.specs.NormalForm.{normal_form, height, has_largest}
use Rattle.mw_logic.proofs.CleanForms.{too_deep-iff}
use Rattle.mw_logic.proofs.Admitted.{too_large-iff}
use Rattle.mw_canon.specs.Causes.{HasCause, IsLimit}
use Rattle.mw_canon.specs.declared.CanonError.{CanonError}
use Rattle.mw_canon.specs.declared.CanonError.TheVariants.{Deep, Nat, Memory}

module _ (sig : Signature) (ok : IsAccepted sig) (t : RawTerm) (raw : IsRawTerm sig t) (u : RawTerm) (e : u ≡ normal_form sig t) (large : Bool) (l : large ≡ has_largest sig u) where
  -- it is not too deep, not too large, or one of them is the cause
  pub low_enough : height u ≤ 1000 → ¬ IsTooDeep sig t
  low_enough h d = let k : 1000 < height (normal_form sig t) = (too_deep-iff sig ok raw).0 d in let g : height u ≡ height (normal_form sig t) = ap height e in omega (arith, h, k, g)

  pub small_enough : large ≡ false → ¬ IsTooLarge sig t
  small_enough h d = both_ways _ (sym (l ∙ ap (has_largest sig) e) ∙ h) ((too_large-iff sig ok raw).0 d)

  pub cause : (x : CanonError) → IsLimit (height u) large x → HasCause sig t x
  cause Deep h = (too_deep-iff sig ok raw).1 (subst (λ v. 1000 < height v) e h)
  cause Nat h = ((too_large-iff sig ok raw).1 (sym (l ∙ ap (has_largest sig) e) ∙ h.0), low_enough h.1)
  cause Memory h = tt
