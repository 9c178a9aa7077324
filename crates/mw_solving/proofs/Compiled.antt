-- Patterns as they are compiled.
use Rattle.mw_logic.specs.Term.{RawTerm}
use Rattle.mw_logic.specs.Signature.{Signature, IsRawTerm}
use Rattle.mw_logic.specs.Accepted.{IsAccepted}
use Rattle.mw_logic.specs.Axioms.{EqualModulo}
use Rattle.mw_logic.specs.Parts.{nested}
use Rattle.mw_logic.specs.NormalForm.{normal_form}
use Rattle.mw_logic.proofs.AxiomLaws.{trans}
use Rattle.mw_logic.proofs.RawKept.{raw_kept}
use Rattle.mw_logic.proofs.Soundness.{normal_form-sound}
use Rattle.mw_solving.specs.Reordered.{Reordered}
use Rattle.mw_solving.proofs.Reordering.{nested_reordered}

module _ (sig : Signature) (ok : IsAccepted sig) where
  -- the normal form of a pattern, with arguments in another order, is equal to it
  pub compiled_equal : {p q : RawTerm} → IsRawTerm sig p → Reordered sig (normal_form sig p) q → EqualModulo sig p (nested sig q)
  compiled_equal r h = trans (normal_form-sound sig ok r) (nested_reordered sig h)

  -- and means a raw term again
  pub compiled_raw : {p q : RawTerm} → IsRawTerm sig p → Reordered sig (normal_form sig p) q → IsRawTerm sig (nested sig q)
  compiled_raw r h = (raw_kept sig ok (compiled_equal r h)).0 r
