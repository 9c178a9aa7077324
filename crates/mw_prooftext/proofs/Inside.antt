-- A term inside an admitted one is admitted: its normal form is a part of the other one, or a leaf.
use Rattle.std.specs.Prelude.{◌≡◌, ◌≤◌, ◌⊎◌, ℕ, [], ◌∷◌, Bool, true, false, ◌||◌, ◌&&◌, IsTrue, refl}
use Rattle.std.proofs.Common.{sym, subst, ap, inl, inr, ⊎_elim, arith}
use Rattle.mw_logic.specs.Term.{RawTerm, apply, RawTerms, cons, join, is_ground, Context, plug}
use Rattle.mw_logic.specs.Signature.{Signature, constant_of, numeral_of, IsRawTerm}
use Rattle.mw_logic.specs.Accepted.{IsAccepted}
use Rattle.mw_logic.specs.Parts.{is_assoc, nested, IsPart, IsAdmitted}
use Rattle.mw_logic.specs.Kinds.{is_successor}
use Rattle.mw_logic.specs.NormalForm.{normal_form, normal_forms, applied_in, height, has_largest}
use Rattle.mw_logic.proofs.Admitted.{admitted-iff}
use Rattle.mw_logic.proofs.AxiomLaws.{sym as back}
use Rattle.mw_logic.proofs.Canonical.{IsCanonical, canonical}
use Rattle.mw_logic.proofs.CanonicalTerms.{fixed, clean}
use Rattle.mw_logic.proofs.EqualTerms.{IsAdmitted-equal}
use Rattle.mw_logic.proofs.Inside.{OwnCases, own_cases, raw_inside}
use Rattle.mw_logic.proofs.PartsOfNormalForm.{part_found}
use Rattle.mw_logic.proofs.RawKept.{raw_kept}
use Rattle.mw_logic.proofs.Replacing.{normals-join}
use Rattle.mw_logic.proofs.Soundness.{normal_form-sound}
use Rattle.mw_deduction.proofs.NormalParts.{ground_within, part_admitted}
use Rattle.mw_deduction.proofs.ValuesInside.{IsLeaf, of_identity, of_numeral, Lies, argument_lies}

module _ (sig : Signature) (ok : IsAccepted sig) where
  leaf_limits : {v : RawTerm} → IsLeaf sig v → (height v ≤ 1000) × (has_largest sig v ≡ false)
  leaf_limits (of_identity f (constant_of c) e) = (omega arith, none (is_successor sig c))
    where
      none : (b : Bool) → ((b && false) || false) ≡ false
      none true = refl
      none false = refl
  leaf_limits (of_identity f (numeral_of n) e) = (omega arith, refl)
  leaf_limits of_numeral = (omega arith, refl)

  -- what is found in an admitted term, or is a leaf, is admitted
  pub found_admitted : (T u : RawTerm) → IsRawTerm sig T → IsAdmitted sig T → IsRawTerm sig u → IsTrue (is_ground u) → ((C : Context) × IsPart sig T C (nested sig (normal_form sig u))) ⊎ IsLeaf sig (normal_form sig u) → IsAdmitted sig u
  found_admitted T u rt a ru g (inl c) = IsAdmitted-equal sig (back (normal_form-sound sig ok ru)) (part_admitted sig ok c.0 (nested sig (normal_form sig u)) rt a c.1)
  found_admitted T u rt a ru g (inr l) = let (b, d) = leaf_limits l in (admitted-iff sig ok ru).1 (g, b, d)

  own : (v : RawTerm) → IsRawTerm sig v → (f : ℕ) → is_assoc sig f ≡ true → OwnCases sig ok f (normal_form sig v)
  own v r f h =
      let n : RawTerm = normal_form sig v in
      let k : IsCanonical sig n = canonical sig ok v in
      subst (OwnCases sig ok f) (fixed sig ok n k) (own_cases sig ok f h (nested sig n) ((raw_kept sig ok (normal_form-sound sig ok r)).0 r) (clean sig ok n k))

  -- an argument of an admitted term
  argument_admitted : (f : ℕ) (b : RawTerms) (v : RawTerm) (a : RawTerms) → IsRawTerm sig (apply f (join b (cons v a))) → IsRawTerm sig v → IsTrue (is_ground v) → IsAdmitted sig (apply f (join b (cons v a))) → IsAdmitted sig v
  argument_admitted f b v a rt rv g h =
      let n : normal_form sig (apply f (join b (cons v a))) ≡ applied_in sig f (join (normal_forms sig b) (cons (normal_form sig v) (normal_forms sig a))) = ap (applied_in sig f) (normals-join sig b (cons v a)) in
      let l : Lies sig (normal_form sig (apply f (join b (cons v a)))) (normal_form sig v) = subst (λ t. Lies sig t (normal_form sig v)) (sym n) (argument_lies sig ok f (normal_forms sig b) (normal_form sig v) (normal_forms sig a) (own v rv f)) in
      found_admitted (apply f (join b (cons v a))) v rt h rv g (⊎_elim (λ p. let (C, o, is) = part_found sig ok (normal_form sig v) rt p in inl (C, is)) inr l)

  -- so a term inside an admitted one is admitted
  pub inside_admitted : (C : Context) (v : RawTerm) → IsRawTerm sig (plug C v) → IsAdmitted sig (plug C v) → IsAdmitted sig v
  inside_admitted [] v r a = a
  inside_admitted (c ∷ C) v r a = argument_admitted c.operator c.before v c.after (raw_inside sig ok C _ r) (raw_inside sig ok (c ∷ C) v r) (ground_within (c ∷ C) v a.ground) (inside_admitted C _ r a)
