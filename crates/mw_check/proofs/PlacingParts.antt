-- A replacement at a place of an admitted term: the part is admitted, and what comes of it is canonical, and raw and ground with what is put in.
use Rattle.std.specs.Prelude.{◌≡◌, ◌≤◌, ℕ, List, [], ◌∷◌, Bool, false, Option, Some, None, IsTrue, refl}
use Rattle.std.proofs.Common.{sym, subst, ◌∙◌, arith}
use Rattle.std.proofs.lemmas.Bool.{both_ways}
use Rattle.mw_logic.specs.Term.{RawTerm, RawTerms, numeral, quoted, variable, apply, nil, cons, join, is_ground, Context, plug}
use Rattle.mw_logic.specs.Signature.{Signature, HasKind, of_operator, IsRawTerm, an_operator, AreRawTerms, next}
use Rattle.mw_logic.specs.Accepted.{IsAccepted}
use Rattle.mw_logic.specs.Axioms.{EqualModulo}
use Rattle.mw_logic.specs.Parts.{nested, IsPart, IsAdmitted}
use Rattle.mw_logic.specs.NormalForm.{is_comm, identity_of, normal_form, height, has_largest}
use Rattle.mw_logic.specs.CanonicalPart.{IsPartOf, ReplacesIn}
use Rattle.mw_logic.specs.CanonicalPart as parts
use Rattle.mw_logic.proofs.Admitted.{admitted-iff}
use Rattle.mw_logic.proofs.AxiomLaws.{sym as back}
use Rattle.mw_logic.proofs.Canonical.{Each, IsCanonical, IsElement, each_canonical, assoc-true}
use Rattle.mw_logic.proofs.CanonicalTerms.{fixed}
use Rattle.mw_logic.proofs.EqualByNormalForm.{equal_by_normal_form}
use Rattle.mw_logic.proofs.EqualTerms.{IsAdmitted-equal, ground_kept}
use Rattle.mw_logic.proofs.Holes.{Each-parts, Each-unarranged}
use Rattle.mw_logic.proofs.Inside.{raw_inside}
use Rattle.mw_logic.proofs.Invariance.{normal_form-kept}
use Rattle.mw_logic.proofs.PartsOfNormalForm.{part_from_replacing, part_found}
use Rattle.mw_logic.proofs.RawKept.{raw_kept}
use Rattle.mw_logic.proofs.ReplacingFound.{replacement_found}
use Rattle.mw_logic.proofs.Soundness.{normal_form-sound, rebuilt-several}
use Rattle.mw_arguments.proofs.Arguments.{rebuilt_again}
use Rattle.mw_canon.specs.Canonical.{IsAdmittedTerm}
use Rattle.mw_canon.specs.Causes.{IsLimit}
use Rattle.mw_canon.specs.declared.CanonError.{CanonError}
use Rattle.mw_canon.specs.declared.CanonError.TheVariants.{Deep, Nat, Memory}
use Rattle.mw_position.proofs.Grounded.{ground_again}
use Rattle.mw_solving.proofs.Admitted.{admitted_value}
use Rattle.mw_solving.proofs.Grounds.{nested_ground}
use Rattle.mw_redex.specs.Replaced.{replaced_at, IsPartAt, IsOpenArgument, IsOpenWay, way_of_place, ReplacesAt}
use Rattle.mw_redex.proofs.Standing.{place_in_term}
use Rattle.mw_deduction.proofs.NormalParts.{part_admitted}
use Rattle.mw_search.specs.Lacking.{IsKnown}
use Rattle.mw_prooftext.proofs.Inside.{inside_admitted}
use Rattle.mw_check.specs.Answers.{IsNext}

-- equations may change what stands anywhere
open_argument : (sig : Signature) (t : RawTerm) (i : ℕ) → IsOpenArgument sig false t i
open_argument sig (numeral n) i = tt
open_argument sig (quoted q) i = tt
open_argument sig (variable x) i = tt
open_argument sig (apply f ts) i = λ h. cc

pub open_way : (sig : Signature) (path : List ℕ) (t : RawTerm) → IsOpenWay sig false path t
open_way sig [] t = tt
open_way sig (i ∷ path) t = (open_argument sig t i, λ u e. open_way sig path u)

-- what a term becomes at a part
pub replaces_there : {sig : Signature} {t w : RawTerm} (x y : RawTerm) (path : List ℕ) (take : Option (List ℕ)) → IsPartAt sig path take t w → y ≡ replaced_at sig path take x t → ReplacesAt sig false w x path take t y
replaces_there {sig} {t} x y path take p e = record { part = p; open_way = open_way sig (way_of_place path take) t; becomes = e }

module _ (sig : Signature) (ok : IsAccepted sig) where
  -- parts of a canonical term are canonical
  part_canonical : {by_rule : Bool} {v w : RawTerm} → IsPartOf sig by_rule v w → IsCanonical sig v → IsCanonical sig w
  part_canonical parts.whole k = k
  part_canonical (parts.argument f before t after o p) k = part_canonical p (Each-parts (IsCanonical sig) before (cons t after) (each_canonical sig (join before (cons t after)) k.0)).1.0
  part_canonical (parts.several {f} {ts} {us} A o s cut) k =
      let h = assoc-true sig f A.operator A.is_there A.assoc in
      let inside : (P : RawTerm → Type 0) → Each P ts → Each P us = λ P e. (Each-parts P us cut.after (Each-parts P cut.before (join us cut.after) (Each-unarranged P (is_comm sig f) (join cut.before (join us cut.after)) (subst (Each P) (sym cut.whole) e))).1).0 in
      subst (IsCanonical sig) (rebuilt-several (identity_of sig f) f us s) (rebuilt_again sig ok f h us cut.in_order (inside (IsElement (identity_of sig f) f) (k.2 h)) (inside (IsCanonical sig) (each_canonical sig ts k.0)))

  -- so a part that stands at a place of an admitted term is one
  pub part_term : (path : List ℕ) (take : Option (List ℕ)) (t w : RawTerm) → IsAdmittedTerm sig t → IsPartAt sig path take t w → IsAdmittedTerm sig w
  part_term path take t w a p =
      let r : ReplacesIn sig false w w t (replaced_at sig path take w t) = place_in_term sig ok false w w t (replaced_at sig path take w t) path take a.canonical (replaces_there w (replaced_at sig path take w t) path take p refl) in
      let q : IsPartOf sig false t w = part_from_replacing r in
      let (C, o, is) = part_found sig ok w a.raw (subst (λ v. IsPartOf sig false v w) (sym a.canonical) q) in
      record {
        raw = raw_inside sig ok C (nested sig w) ((raw_kept sig ok is.equal).0 a.raw);
        canonical = fixed sig ok w (part_canonical q (admitted_value sig ok t a).canonical);
        admitted = part_admitted sig ok C (nested sig w) a.raw a.admitted is;
      }

  -- a raw term is admitted where its normal form is
  pub form_admitted : (w form : RawTerm) → IsAdmittedTerm sig w → IsRawTerm sig form → normal_form sig form ≡ w → IsAdmitted sig form
  form_admitted w form a raw is = IsAdmitted-equal sig ((equal_by_normal_form sig ok a.raw raw).1 (a.canonical ∙ sym is)) a.admitted

  -- a term of the same kinds in place of another keeps a term raw
  raw_among : (before : RawTerms) (w v : RawTerm) (after : RawTerms) {Ks : List ℕ} → IsRawTerm sig v → ((K : ℕ) → HasKind sig w K → HasKind sig v K) → AreRawTerms sig (join before (cons w after)) Ks
      → AreRawTerms sig (join before (cons v after)) Ks
  raw_among nil w v after r h (next s k rest) = next r (h _ k) rest
  raw_among (cons t before) w v after r h (next s k rest) = next s k (raw_among before w v after r h rest)

  raw_level : (f : ℕ) (before : RawTerms) (w v : RawTerm) (after : RawTerms) → IsRawTerm sig v → ((K : ℕ) → HasKind sig w K → HasKind sig v K) → IsRawTerm sig (apply f (join before (cons w after)))
      → IsRawTerm sig (apply f (join before (cons v after)))
  raw_level f before w v after r h (an_operator o e args) = an_operator o e (raw_among before w v after r h args)

  same_kinds : (f : ℕ) (ts us : RawTerms) (K : ℕ) → HasKind sig (apply f ts) K → HasKind sig (apply f us) K
  same_kinds f ts us K (of_operator o e s) = of_operator o e s

  raw_in_place : (C : Context) (w v : RawTerm) → IsRawTerm sig (plug C w) → IsRawTerm sig v → ((K : ℕ) → HasKind sig w K → HasKind sig v K) → IsRawTerm sig (plug C v)
  raw_in_place [] w v r s h = s
  raw_in_place (c ∷ C) w v r s h =
      let level : RawTerm = apply c.operator (join c.before (cons w c.after)) in
      raw_in_place C level (apply c.operator (join c.before (cons v c.after))) r (raw_level c.operator c.before w v c.after s h (raw_inside sig ok C level r)) (same_kinds c.operator (join c.before (cons w c.after)) (join c.before (cons v c.after)))

  -- where w stands in t, and what comes of each term that is put there
  record IsFound (w x t v : RawTerm) : Type 0 where
    place : Context
    part : IsPart sig (nested sig t) place (nested sig w)
    becomes : (X : RawTerm) → normal_form sig X ≡ x → normal_form sig (plug place X) ≡ v

  found : (by_rule : Bool) (w x t v : RawTerm) (path : List ℕ) (take : Option (List ℕ)) → IsAdmittedTerm sig t → ReplacesAt sig by_rule w x path take t v → IsFound w x t v
  found r w x t v path take h there =
      let p : ReplacesIn sig r w x t v = place_in_term sig ok r w x t v path take h.canonical there in
      let (C, o, part, g) = replacement_found sig ok {by_rule = r} {t = nested sig t} w x v h.raw (subst (λ z. ReplacesIn sig r w x z v) (sym h.canonical) p) in
      record { place = C; part = part; becomes = g }

  module _ (r : Bool) (W X t v : RawTerm) (path : List ℕ) (take : Option (List ℕ)) (h : IsAdmittedTerm sig t) (raw : IsRawTerm sig W)
      (there : ReplacesAt sig r (normal_form sig W) (normal_form sig X) path take t v) where
    here : IsFound (normal_form sig W) (normal_form sig X) t v
    here = found r (normal_form sig W) (normal_form sig X) t v path take h there

    same : EqualModulo sig W (nested sig (normal_form sig W))
    same = normal_form-sound sig ok raw

    module _ (raw_next : IsRawTerm sig X) (kinds : (K : ℕ) → HasKind sig W K → HasKind sig X K) where
      abbrev whole : RawTerm
      whole = plug here.place X

      raw_part : IsRawTerm sig (plug here.place (nested sig (normal_form sig W)))
      raw_part = (raw_kept sig ok here.part.equal).0 h.raw

      raw_whole : IsRawTerm sig whole
      raw_whole = raw_in_place here.place (nested sig (normal_form sig W)) X raw_part raw_next (λ K k. kinds K ((raw_kept sig ok (back same)).1 K k))

      comes : normal_form sig whole ≡ v
      comes = here.becomes X refl

      same_whole : EqualModulo sig whole (nested sig v)
      same_whole = subst (λ z. EqualModulo sig whole (nested sig z)) comes (normal_form-sound sig ok raw_whole)

      -- where the whole is admitted, so is what is put in
      pub put_in_admitted : IsAdmitted sig (nested sig v) → IsAdmitted sig X
      put_in_admitted a = inside_admitted sig ok here.place X raw_whole (IsAdmitted-equal sig (back same_whole) a)

      -- the whole is canonical, and raw and ground with what is put in
      pub whole_known : IsTrue (is_ground X) → IsKnown sig v
      whole_known g = record {
        canonical = sym (normal_form-kept sig ok same_whole) ∙ comes;
        raw = (raw_kept sig ok same_whole).0 raw_whole;
        ground = sym (nested_ground sig v) ∙ sym (ground_kept sig same_whole) ∙ ground_again here.place (nested sig (normal_form sig W)) X (sym (ground_kept sig here.part.equal) ∙ h.admitted.ground) g;
      }

  -- A known term within the limits is the next one, and one past them isn't admitted.
  module _ (v : RawTerm) (known : IsKnown sig v) where
    closed : IsTrue (is_ground (nested sig v))
    closed = nested_ground sig v ∙ known.ground

    pub next_within : (u : RawTerm) → u ≡ v → height u ≤ 1000 → has_largest sig u ≡ false → IsNext sig v (Some u)
    next_within u is low small =
        let e : u ≡ normal_form sig (nested sig v) = is ∙ sym known.canonical in
        let within : height (normal_form sig (nested sig v)) ≤ 1000 = subst (λ t. height t ≤ 1000) e low in
        (is, record { raw = known.raw; canonical = known.canonical; admitted = (admitted-iff sig ok known.raw).1 (closed, within, subst (λ t. has_largest sig t ≡ false) e small) })

    pub next_past : (e : CanonError) → (e ≡ Memory → ⊥) → IsLimit (height v) (has_largest sig v) e → IsNext sig v None
    next_past e other limit a = by_cause e other limit ((admitted-iff sig ok known.raw).0 a)
      where
        by_cause : (e : CanonError) → (e ≡ Memory → ⊥) → IsLimit (height v) (has_largest sig v) e
            → IsTrue (is_ground (nested sig v)) × (height (normal_form sig (nested sig v)) ≤ 1000) × (has_largest sig (normal_form sig (nested sig v)) ≡ false) → ⊥
        by_cause Deep other l (g, low, small) = let b : height v ≤ 1000 = subst (λ t. height t ≤ 1000) known.canonical low in omega (arith, l, b)
        by_cause Nat other l (g, low, small) = both_ways _ (subst (λ t. has_largest sig t ≡ false) known.canonical small) l.0
        by_cause Memory other l all = other refl
