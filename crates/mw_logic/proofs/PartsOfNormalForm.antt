-- The parts of a raw term, by its clean forms, are the parts of its normal form. (A part is what can be replaced, so this follows from what holds of
-- replacing.)
use Rattle.std.specs.Prelude.{Bool, refl}
use Rattle.std.proofs.Common.{ap, subst, sym}
use Rattle.mw_logic.specs.Term.{RawTerm, apply, cons, join, Context}
use Rattle.mw_logic.specs.Signature.{Signature, IsRawTerm}
use Rattle.mw_logic.specs.Accepted.{IsAccepted}
use Rattle.mw_logic.specs.Parts.{nested, IsPart}
use Rattle.mw_logic.specs.NormalForm.{is_comm, arranged, applied_in, normal_form}
use Rattle.mw_logic.specs.CanonicalPart.{IsPartOf, ReplacesIn}
use Rattle.mw_logic.specs.CanonicalPart as part
use Rattle.mw_logic.proofs.Frozen.{IsOpenContext}
use Rattle.mw_logic.proofs.Replacing.{part_replaced}
use Rattle.mw_logic.proofs.ReplacingFound.{replacement_found}

-- what is replaced is a part
pub part_from_replacing : {sig : Signature} {by_rule : Bool} {w x v y : RawTerm} → ReplacesIn sig by_rule w x v y → IsPartOf sig by_rule v w
part_from_replacing {sig} {by_rule} {w} (part.whole e d) = subst (λ v. IsPartOf sig by_rule v w) (sym e) part.whole
part_from_replacing {sig} {by_rule} {w} (part.argument f t u b a o e d p) = subst (λ v. IsPartOf sig by_rule v w) (sym e) (part.argument f b t a o (part_from_replacing p))
part_from_replacing {sig} {by_rule} {w} (part.several f us b a A o l i ew ev ey) =
    subst (λ v. IsPartOf sig by_rule v w) (sym ev) (subst (λ w. IsPartOf sig by_rule (apply f (arranged (is_comm sig f) (join b (join us a)))) w) (sym ew) (part.several A o l (record { before = b; after = a; whole = refl; in_order = i })))

-- a part can be replaced by each term
pub part_can_be_replaced : {sig : Signature} {by_rule : Bool} {v w : RawTerm} (x : RawTerm) → IsPartOf sig by_rule v w → (y : RawTerm) × ReplacesIn sig by_rule w x v y
part_can_be_replaced x part.whole = (x, part.whole refl refl)
part_can_be_replaced {sig} x (part.argument f b t a o p) = let (u, q) = part_can_be_replaced x p in (applied_in sig f (join b (cons u a)), part.argument f t u b a o refl refl q)
part_can_be_replaced {sig} x (part.several {f} {ts} {us} A o l cut) =
    (applied_in sig f (join cut.before (cons x cut.after)), part.several f us cut.before cut.after A o l cut.in_order refl (ap (apply f) (sym cut.whole)) refl)

module _ (sig : Signature) (ok : IsAccepted sig) where
  -- each part of a raw term is a part of its normal form
  pub part_kept : {by_rule : Bool} {t : RawTerm} (C : Context) (w : RawTerm) → IsOpenContext sig by_rule C → IsRawTerm sig t → IsPart sig t C w → IsPartOf sig by_rule (normal_form sig t) (normal_form sig w)
  part_kept {by_rule} C w o r p = part_from_replacing (part_replaced sig ok by_rule C w w o r p)

  -- each part of the normal form is a part of the term
  pub part_found : {by_rule : Bool} {t : RawTerm} (w : RawTerm) → IsRawTerm sig t → IsPartOf sig by_rule (normal_form sig t) w → (C : Context) × IsOpenContext sig by_rule C × IsPart sig t C (nested sig w)
  part_found {t = t} w r p = let (y, q) = part_can_be_replaced w p in let (C, o, is, g) = replacement_found sig ok w w y r q in (C, o, is)
