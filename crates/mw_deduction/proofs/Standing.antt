-- The steps of a reduction modulo the axioms keep what it stands for.
use Rattle.std.specs.Prelude.{◌≡◌, ℕ, List, [], ◌∷◌, ◌++◌, Bool, true, false, Option, IsTrue, refl}
use Rattle.std.proofs.Common.{sym, subst, ap, ◌∙◌, true≢false}
use Rattle.mw_logic.specs.Term.{RawTerm, RawTerms, apply, nil, cons, join, Context, plug}
use Rattle.mw_logic.specs.Signature.{Signature, Identity, IsRawTerm, IsAssociative}
use Rattle.mw_logic.specs.Axioms.{EqualModulo, done}
use Rattle.mw_logic.specs.Accepted.{IsAccepted}
use Rattle.mw_logic.specs.Substitution.{Substitution}
use Rattle.mw_logic.specs.Parts.{is_assoc, nested, all_nested, nest, IsClean, IsFrozen, IsPart, IsAdmitted, ReplacesPart}
use Rattle.mw_logic.specs.NormalForm.{is_comm, identity_of, elements, flattened, rebuilt, arranged, applied_in, normal_form, normal_forms}
use Rattle.mw_logic.specs.CanonicalPart.{AreSeveral, IsCut}
use Rattle.mw_logic.specs.Module.{Fragment, Module, Row}
use Rattle.mw_logic.specs.Proof.{Proof, replacement, row, Proofs}
use Rattle.mw_logic.specs.Judgements.{Leads, AdmittedStep, Replaces, IsNormalBy}
use Rattle.mw_logic.proofs.AxiomLaws.{trans, sym as back, in_context}
use Rattle.mw_logic.proofs.ContextLaws.{plug-append}
use Rattle.mw_logic.proofs.Canonical.{Each, IsElement, IsCanonical, AreCanonical, canonical, assoc-true, arranged-twice, is_identity-arguments, nat_eq-refl, flattened-elements}
use Rattle.mw_logic.proofs.Holes.{Each-parts, Each-unarranged, several_place}
use Rattle.mw_logic.proofs.Soundness.{IsLong, normal_form-sound, all_nested-join, rebuilt-several}
use Rattle.mw_logic.proofs.RawKept.{raw_kept}
use Rattle.mw_logic.proofs.EqualTerms.{IsAdmitted-equal}
use Rattle.mw_logic.proofs.Inside.{raw_inside}
use Rattle.mw_logic.proofs.CanonicalTerms.{fixed, all_fixed, all_equal, normal_form-chain}
use Rattle.mw_logic.proofs.Replacing.{flattened-join, normals-join, round_argument}
use Rattle.mw_deduction.specs.Places.{context_of, place_of, levels_of}
use Rattle.mw_deduction.specs.Chains.{proof_of}
use Rattle.mw_deduction.specs.Reading.{Reading, fresh, flat, left, entering, leaving, applying}
use Rattle.mw_deduction.specs.Standing.{Open, filled, context_at, round, entered_of, IsClear, AreClear, IsSeen, At}
use Rattle.mw_deduction.proofs.PlaceLaws.{context_of-plug}
use Rattle.mw_deduction.proofs.ReadingLaws.{leads_step}
use Rattle.mw_deduction.proofs.Clear.{place_of-round, clear_clean}

module _ (M : Module) (ok : IsAccepted M.signature) (H : List Fragment → Substitution → Proofs → Substitution → Type 0) (F : List Fragment → Substitution → Type 0) where
  abbrev sig : Signature
  sig = M.signature

  -- at the start
  pub begins : (t : RawTerm) → IsCanonical sig t → IsRawTerm sig (nested sig t) → IsAdmitted sig (nested sig t) → At M H F (nested sig t) fresh [] t
  begins t k r a = record { whole = nested sig t; leads = refl; is = done; entered = refl; raw = r; admitted = a; clear = tt; canonical = k }

  pub begins-whole : (t : RawTerm) (k : IsCanonical sig t) (r : IsRawTerm sig (nested sig t)) (a : IsAdmitted sig (nested sig t)) → (begins t k r a).whole ≡ nested sig t
  unfolding begins
  begins-whole t k r a = refl

  -- the same whole, seen otherwise
  moved : {t0 : RawTerm} {R Q : Reading} {os ps : List Open} {t u : RawTerm} → At M H F t0 R os t → Q.done ≡ R.done → Q.entered ≡ entered_of sig ps → AreClear sig ps → IsCanonical sig u
      → EqualModulo sig (plug (round sig os) (nested sig t)) (plug (round sig ps) (nested sig u)) → At M H F t0 Q ps u
  moved {t0} {R} {Q} a s e c k q = record {
    whole = a.whole;
    leads = subst (λ p. Leads M (AdmittedStep M) H F [] (proof_of p) t0 a.whole) (sym s) a.leads;
    is = trans a.is q;
    entered = e;
    raw = (raw_kept sig ok q).0 a.raw;
    admitted = IsAdmitted-equal sig q a.admitted;
    clear = c;
    canonical = k;
  }

  -- into an argument
  pub goes_in : {t0 : RawTerm} {R : Reading} {os : List Open} (f : ℕ) (b : RawTerms) (x : RawTerm) (a : RawTerms) → IsClear sig (record { operator = f; before = b; after = a })
      → At M H F t0 R os (apply f (join b (cons x a)))
      → At M H F t0 (entering (levels_of (is_assoc sig f) (Rattle.mw_logic.specs.Parts.number_of_terms b) (Rattle.mw_logic.specs.Parts.number_of_terms a)) R) (record { operator = f; before = b; after = a } ∷ os) x
  goes_in {t0} {R} {os} f b x a c h =
      let o : Open = record { operator = f; before = b; after = a } in
      let k = round_argument sig ok b x a h.canonical in
      let e : nested sig (apply f (join b (cons x a))) ≡ plug (context_at sig o) (nested sig x) = ap (nest (is_assoc sig f) f) (all_nested-join sig b (cons x a)) ∙ context_of-plug (is_assoc sig f) f (all_nested sig b) (all_nested sig a) (nested sig x) in
      let q : plug (round sig os) (nested sig (apply f (join b (cons x a)))) ≡ plug (context_at sig o ++ round sig os) (nested sig x) = ap (plug (round sig os)) e ∙ sym (plug-append (context_at sig o) (round sig os) (nested sig x)) in
      moved h refl (ap (λ ls. levels_of (is_assoc sig f) (Rattle.mw_logic.specs.Parts.number_of_terms b) (Rattle.mw_logic.specs.Parts.number_of_terms a) ∷ ls) h.entered) (c, h.clear) k.1 (subst (EqualModulo sig _) q done)

  pub goes_in-whole : {t0 : RawTerm} {R : Reading} {os : List Open} (f : ℕ) (b : RawTerms) (x : RawTerm) (a : RawTerms) (c : IsClear sig (record { operator = f; before = b; after = a }))
      (h : At M H F t0 R os (apply f (join b (cons x a)))) → (goes_in f b x a c h).whole ≡ h.whole
  unfolding goes_in moved
  goes_in-whole f b x a c h = refl

  -- the hole's list has the operator's normal form
  list_normal : (o : Open) (Z : RawTerm) → AreCanonical sig o.before → AreCanonical sig o.after → normal_form sig (plug (context_at sig o) Z) ≡ applied_in sig o.operator (join o.before (cons (normal_form sig Z) o.after))
  list_normal o Z kb ka = ap (normal_form sig) (sym (context_of-plug (is_assoc sig o.operator) o.operator (all_nested sig o.before) (all_nested sig o.after) Z)) ∙ by_assoc (is_assoc sig o.operator) refl ∙ ap (applied_in sig o.operator) inner
    where
      by_assoc : (m : Bool) → is_assoc sig o.operator ≡ m → normal_form sig (nest m o.operator (join (all_nested sig o.before) (cons Z (all_nested sig o.after)))) ≡ applied_in sig o.operator (normal_forms sig (join (all_nested sig o.before) (cons Z (all_nested sig o.after))))
      by_assoc false h = refl
      by_assoc true h = of_list (all_nested sig o.before)
        where
          of_list : (B : RawTerms) → normal_form sig (nest true o.operator (join B (cons Z (all_nested sig o.after)))) ≡ applied_in sig o.operator (normal_forms sig (join B (cons Z (all_nested sig o.after))))
          of_list nil = normal_form-chain sig ok o.operator h Z (all_nested sig o.after)
          of_list (cons y ys) = normal_form-chain sig ok o.operator h y (join ys (cons Z (all_nested sig o.after)))

      inner : normal_forms sig (join (all_nested sig o.before) (cons Z (all_nested sig o.after))) ≡ join o.before (cons (normal_form sig Z) o.after)
      inner =
          let eb = all_equal sig ok o.before (all_fixed sig ok o.before kb) in
          let ea = all_equal sig ok o.after (all_fixed sig ok o.after ka) in
          normals-join sig (all_nested sig o.before) (cons Z (all_nested sig o.after)) ∙ rw (eb, ea) refl

  -- out of an argument: what stands there is put in order again
  pub goes_out : {t0 : RawTerm} {R : Reading} {os : List Open} (o : Open) (t : RawTerm) → At M H F t0 R (o ∷ os) t → At M H F t0 (leaving R) os (filled sig o t)
  goes_out {t0} {R} {os} o t h =
      let c = h.clear.0 in
      let Z : RawTerm = plug (context_at sig o) (nested sig t) in
      let p : plug (context_at sig o ++ round sig os) (nested sig t) ≡ plug (round sig os) Z = plug-append (context_at sig o) (round sig os) (nested sig t) in
      let rz : IsRawTerm sig Z = raw_inside sig ok (round sig os) Z (subst (IsRawTerm sig) p h.raw) in
      let n : normal_form sig Z ≡ filled sig o t = list_normal o (nested sig t) c.before c.after ∙ ap (λ x. applied_in sig o.operator (join o.before (cons x o.after))) (fixed sig ok t h.canonical) in
      let q : EqualModulo sig Z (nested sig (filled sig o t)) = subst (λ x. EqualModulo sig Z (nested sig x)) n (normal_form-sound sig ok rz) in
      moved h refl (ap left h.entered) h.clear.1 (subst (IsCanonical sig) n (canonical sig ok Z)) (subst (λ x. EqualModulo sig x (plug (round sig os) (nested sig (filled sig o t)))) (sym p) (in_context (round sig os) q))

  pub goes_out-whole : {t0 : RawTerm} {R : Reading} {os : List Open} (o : Open) (t : RawTerm) (h : At M H F t0 R (o ∷ os) t) → (goes_out o t h).whole ≡ h.whole
  unfolding goes_out moved
  goes_out-whole o t h = refl

  -- A part that is seen is replaced: w, equal to the term in hand, becomes v.
  pub steps_on : {t0 : RawTerm} {R : Reading} {os : List Open} {t : RawTerm} (by_rule : Bool) (p : Proof) (w v : RawTerm) → At M H F t0 R os t → IsSeen sig os t → (IsTrue by_rule → ¬ IsFrozen sig (round sig os))
      → EqualModulo sig w (nested sig t) → IsRawTerm sig (plug (round sig os) v) → IsAdmitted sig (plug (round sig os) v)
      → (AdmittedStep M by_rule (plug (round sig os) w) w v (plug (round sig os) v) → Leads M (AdmittedStep M) H F (round sig os) p w v)
      → At M H F t0 (applying p R) os (normal_form sig v)
  steps_on {t0} {R} {os} {t} by_rule p w v h seen open_for same rv av l =
      let C : Context = round sig os in
      let x : ReplacesPart sig by_rule (plug C w) w v (plug C v) = record {
        place = C;
        part = nested sig t;
        for_rules = open_for;
        is_part = record { clean = clear_clean sig ok os t h.clear h.canonical seen; equal = in_context C same };
        same = same;
        becomes = done;
      } in
      let aw : IsAdmitted sig (plug C w) = IsAdmitted-equal sig (in_context C (back same)) h.admitted in
      let s : EqualModulo sig v (nested sig (normal_form sig v)) = normal_form-sound sig ok (raw_inside sig ok C v rv) in
      let q : EqualModulo sig (plug C v) (plug C (nested sig (normal_form sig v))) = in_context C s in
      let e : flat R.entered ≡ place_of C = ap flat h.entered ∙ place_of-round sig os in
      record {
        whole = plug C v;
        leads = leads_step M (AdmittedStep M) H F R C p t0 h.whole w v (plug C v) e h.leads (trans h.is (in_context C (back same))) (l (x, aw, av)) done;
        is = q;
        entered = h.entered;
        raw = (raw_kept sig ok q).0 rv;
        admitted = IsAdmitted-equal sig q av;
        clear = h.clear;
        canonical = canonical sig ok v;
      }

  -- by a statement, with the evidence that was read before it
  pub applies_on : {t0 : RawTerm} {R : Reading} {os : List Open} {t : RawTerm} (k : ℕ) (by_rule : Bool) (s : Substitution) (w v : RawTerm) → At M H F t0 R os t → IsSeen sig os t → (IsTrue by_rule → ¬ IsFrozen sig (round sig os))
      → EqualModulo sig w (nested sig t) → IsRawTerm sig (plug (round sig os) v) → IsAdmitted sig (plug (round sig os) v) → Replaces M H F k by_rule s R.ready w v
      → At M H F t0 (applying (replacement k by_rule s R.ready) R) os (normal_form sig v)
  applies_on {R = R} k by_rule s w v h seen open_for same rv av r = steps_on by_rule (replacement k by_rule s R.ready) w v h seen open_for same rv av (λ x. (r, x))

  -- by a row of the schemata
  pub row_on : {t0 : RawTerm} {R : Reading} {os : List Open} {t : RawTerm} (w v : RawTerm) → At M H F t0 R os t → IsSeen sig os t
      → EqualModulo sig w (nested sig t) → IsRawTerm sig (plug (round sig os) v) → IsAdmitted sig (plug (round sig os) v) → Row sig (IsNormalBy M F) w v → IsClean sig w
      → At M H F t0 (applying row R) os (normal_form sig v)
  row_on w v h seen same rv av r c = steps_on false row w v h seen (λ x. absurd (true≢false (sym x))) same rv av (λ x. (r, c, x))

  -- and then the whole has v in the place of w
  pub applies_on-whole : {t0 : RawTerm} {R : Reading} {os : List Open} {t : RawTerm} (k : ℕ) (by_rule : Bool) (s : Substitution) (w v : RawTerm) (h : At M H F t0 R os t) (seen : IsSeen sig os t)
      (open_for : IsTrue by_rule → ¬ IsFrozen sig (round sig os)) (same : EqualModulo sig w (nested sig t)) (rv : IsRawTerm sig (plug (round sig os) v)) (av : IsAdmitted sig (plug (round sig os) v))
      (r : Replaces M H F k by_rule s R.ready w v) → (applies_on k by_rule s w v h seen open_for same rv av r).whole ≡ plug (round sig os) v
  unfolding applies_on steps_on
  applies_on-whole k by_rule s w v h seen open_for same rv av r = refl

  pub row_on-whole : {t0 : RawTerm} {R : Reading} {os : List Open} {t : RawTerm} (w v : RawTerm) (h : At M H F t0 R os t) (seen : IsSeen sig os t) (same : EqualModulo sig w (nested sig t))
      (rv : IsRawTerm sig (plug (round sig os) v)) (av : IsAdmitted sig (plug (round sig os) v)) (r : Row sig (IsNormalBy M F) w v) (c : IsClean sig w) → (row_on w v h seen same rv av r c).whole ≡ plug (round sig os) v
  unfolding row_on steps_on
  row_on-whole w v h seen same rv av r c = refl

  module _ (f : ℕ) (A : IsAssociative sig f) (ts us : RawTerms) (l : AreSeveral us) (cut : IsCut (is_comm sig f) ts us) (k : IsCanonical sig (apply f ts)) where
    assoc_is : is_assoc sig f ≡ true
    assoc_is = assoc-true sig f A.operator A.is_there A.assoc

    abbrev all : RawTerms
    all = join cut.before (join us cut.after)

    abbrev Fit : RawTerm → Type 0
    Fit t = IsCanonical sig t × IsElement (identity_of sig f) f t

    pairs : (xs : RawTerms) → AreCanonical sig xs → Each (IsElement (identity_of sig f) f) xs → Each Fit xs
    pairs nil p q = tt
    pairs (cons x xs) p q = ((p.0, q.0), pairs xs p.1 q.1)

    firsts : (xs : RawTerms) → Each Fit xs → AreCanonical sig xs
    firsts nil p = tt
    firsts (cons x xs) p = (p.0.0, firsts xs p.1)

    seconds : (xs : RawTerms) → Each Fit xs → Each (IsElement (identity_of sig f) f) xs
    seconds nil p = tt
    seconds (cons x xs) p = (p.0.1, seconds xs p.1)

    fit : Each Fit cut.before × Each Fit us × Each Fit cut.after
    fit =
        let p : Each Fit (arranged (is_comm sig f) all) = subst (Each Fit) (sym cut.whole) (pairs ts k.0 (k.2 assoc_is)) in
        let (b, r) = Each-parts Fit cut.before (join us cut.after) (Each-unarranged Fit (is_comm sig f) all p) in
        let (u, a) = Each-parts Fit us cut.after r in (b, u, a)

    -- several elements of f are a canonical term
    pub several_canonical : IsCanonical sig (apply f us)
    several_canonical =
        let c = firsts us fit.1 in
        let e = seconds us fit.1 in
        let h : applied_in sig f us ≡ apply f us = rw (assoc_is, flattened-elements (identity_of sig f) f us e, cut.in_order) (rebuilt-several (identity_of sig f) f us l) in
        (c, h, λ q. e)

    pub several_clear : IsLong (join cut.before cut.after) → IsClear sig (record { operator = f; before = cut.before; after = cut.after })
    several_clear o = record {
      before = firsts cut.before fit.0;
      after = firsts cut.after fit.2;
      before_elements = λ q. seconds cut.before fit.0;
      after_elements = λ q. seconds cut.after fit.2;
      others = λ q. o;
    }

    -- put back among the others they are the whole list again
    pub several_filled : filled sig (record { operator = f; before = cut.before; after = cut.after }) (apply f us) ≡ apply f ts
    several_filled =
        let e : Option Identity = identity_of sig f in
        let own : elements e f (apply f us) ≡ us = own_elements us l in
        let b = flattened-elements e f cut.before (seconds cut.before fit.0) in
        let a = flattened-elements e f cut.after (seconds cut.after fit.2) in
        let flat : flattened e f (join cut.before (cons (apply f us) cut.after)) ≡ all = flattened-join e f cut.before (cons (apply f us) cut.after) ∙ rw (own, a, b) refl in
        let order : arranged (is_comm sig f) ts ≡ ts = ap (arranged (is_comm sig f)) (sym cut.whole) ∙ arranged-twice (is_comm sig f) all ∙ cut.whole in
        let here : applied_in sig f ts ≡ rebuilt e f ts = rw (assoc_is, flattened-elements e f ts (k.2 assoc_is), order) refl in
        rw (assoc_is, flat, cut.whole) (sym here ∙ k.1)
      where
        own_elements : (us : RawTerms) → AreSeveral us → elements (identity_of sig f) f (apply f us) ≡ us
        own_elements nil l = absurd l
        own_elements (cons u vs) l = rw (is_identity-arguments (identity_of sig f) f u vs, nat_eq-refl f) refl

    -- into several of an associative operator's arguments, with the others beside them
    pub goes_in_several : {t0 : RawTerm} {R : Reading} {os : List Open} → IsLong (join cut.before cut.after) → At M H F t0 R os (apply f ts)
        → At M H F t0 (entering (levels_of (is_assoc sig f) (Rattle.mw_logic.specs.Parts.number_of_terms cut.before) (Rattle.mw_logic.specs.Parts.number_of_terms cut.after)) R) (record { operator = f; before = cut.before; after = cut.after } ∷ os) (apply f us)
    goes_in_several {t0} {R} {os} others h =
        let o : Open = record { operator = f; before = cut.before; after = cut.after } in
        let (C, c, q, z, w) = several_place sig ok f ts us A k l cut in
        let same : plug C (nested sig (apply f us)) ≡ plug (context_at sig o) (nested sig (apply f us)) =
        z (nested sig (apply f us)) ∙ context_of-plug true f (all_nested sig cut.before) (all_nested sig cut.after) (nested sig (apply f us)) ∙ ap (λ m. plug (context_of m f (all_nested sig cut.before) (all_nested sig cut.after)) (nested sig (apply f us))) (sym assoc_is) in
        let e : EqualModulo sig (nested sig (apply f ts)) (plug (context_at sig o) (nested sig (apply f us))) = subst (EqualModulo sig (nested sig (apply f ts))) same q in
        moved h refl (ap (λ ls. levels_of (is_assoc sig f) (Rattle.mw_logic.specs.Parts.number_of_terms cut.before) (Rattle.mw_logic.specs.Parts.number_of_terms cut.after) ∷ ls) h.entered) (several_clear others, h.clear) several_canonical
        (subst (EqualModulo sig (plug (round sig os) (nested sig (apply f ts)))) (sym (plug-append (context_at sig o) (round sig os) (nested sig (apply f us)))) (in_context (round sig os) e))

    pub goes_in_several-whole : {t0 : RawTerm} {R : Reading} {os : List Open} (others : IsLong (join cut.before cut.after)) (h : At M H F t0 R os (apply f ts)) → (goes_in_several others h).whole ≡ h.whole
    unfolding goes_in_several moved
    goes_in_several-whole others h = refl
