-- The elements of a side that are kept are its elements, and the objects among them its objects.
use Rattle.std.proofs.Common.{◌≡◌, ◌∙◌, ◌<◌, ◌+◌, ◌⊎◌, inl, inr, ℕ, zero, suc, List, [], ◌∷◌, ◌++◌, Bool, true, false, cond, nat_eq, Option, Some, None, slice_get, length, get_or, drop, arith, refl, sym, ap, subst}
use Rattle.std.specs.Prelude.{IsTrue}
use Rattle.mw_logic.specs.Term.{RawTerm, numeral, quoted, variable, apply, RawTerms, nil, cons}
use Rattle.mw_logic.specs.Signature.{Signature, IsRawTerm, an_operator, AreRawTerms, end, next}
use Rattle.mw_logic.specs.Accepted.{IsAccepted}
use Rattle.mw_logic.specs.Elements.{flat_arguments, all_flat_arguments}
use Rattle.mw_logic.proofs.EqualByNormalForm.{equal_by_normal_form}
use Rattle.mw_term.specs.Raws.{raw_term}
use Rattle.mw_omod.specs.declared.classes.Classes.{Classes}
use Rattle.mw_omod.specs.declared.objects.Object.{Object}
use Rattle.mw_omod.specs.declared.objects.Element.{Element}
use Rattle.mw_omod.specs.Objects.{Written, IsWritten}
use Rattle.mw_omod.specs.Completion.{HasObject, repeats, AreOfOneName, HasTwice, HasRepetition, ChangesClass, IsBad, twice_left, twice_right, repetition_left, repetition_right, other_class}
use Rattle.mw_omod.specs.Seen.{seen_object, IsKeptObject, IsObjectOf, IsKept, AreKept, AreRaw, terms_seen, AreOfSide, HasAt, OfObject, OneHas, IsNamedTwice, Repeats, IsOfOtherClass, all_seen}
use denote.Ref.{Bor}
use Rattle.mw_term.specs.declared.raw.Raw.{Raw}
use Rattle.mw_omod.proofs.Moving.{moved, drop_at}
use Rattle.mw_omod.proofs.Sets.{written_once}

some_injective : {X : Type 0} {x y : X} → Some x ≡ Some y → x ≡ y
some_injective e = cc

raw_append : (sig : Signature) (ts us : List RawTerm) → AreRaw sig ts → AreRaw sig us → AreRaw sig (ts ++ us)
raw_append sig [] us h k = k
raw_append sig (t ∷ ts) us (r, h) k = (r, raw_append sig ts us h k)

-- the elements of a raw term are raw terms
mutual
  pub elements_raw : (sig : Signature) (f : ℕ) (t : RawTerm) → IsRawTerm sig t → AreRaw sig (flat_arguments f t)
  elements_raw sig f (numeral n) r = (r, tt)
  elements_raw sig f (quoted q) r = (r, tt)
  elements_raw sig f (variable x) r = (r, tt)
  elements_raw sig f (apply g ts) (an_operator o is args) = by_test (nat_eq f g) (all_elements_raw sig f ts o.args args)
    where
      by_test : (b : Bool) → AreRaw sig (all_flat_arguments f ts) → AreRaw sig (cond b (all_flat_arguments f ts) (apply g ts ∷ []))
      by_test true h = h
      by_test false h = (an_operator o is args, tt)

  all_elements_raw : (sig : Signature) (f : ℕ) (ts : RawTerms) (Ks : List ℕ) → AreRawTerms sig ts Ks → AreRaw sig (all_flat_arguments f ts)
  all_elements_raw sig f nil [] end = tt
  all_elements_raw sig f nil (K ∷ Ks) h = elim h [ ]
  all_elements_raw sig f (cons t ts) [] h = elim h [ ]
  all_elements_raw sig f (cons t ts) (K ∷ Ks) (next r h rest) = raw_append sig (flat_arguments f t) (all_flat_arguments f ts) (elements_raw sig f t r) (all_elements_raw sig f ts Ks rest)

at_seen : (es : List Element) (i : ℕ) (t : RawTerm) → slice_get (terms_seen es) i ≡ Some t → (e : Element) × (slice_get es i ≡ Some e) × (raw_term e.term.now ≡ t)
at_seen [] i t h = let k : None ≡ Some t = h in cc
at_seen (e ∷ es) zero t h = (e, refl, some_injective h)
at_seen (e ∷ es) (suc i) t h = at_seen es i t h

seen_at : (es : List Element) (i : ℕ) (e : Element) → slice_get es i ≡ Some e → slice_get (terms_seen es) i ≡ Some (raw_term e.term.now)
seen_at [] i e h = let k : None ≡ Some e = h in cc
seen_at (d ∷ es) zero e h = ap (λ (x : Element). Some (raw_term x.term.now)) (some_injective h)
seen_at (d ∷ es) (suc i) e h = seen_at es i e h

-- an object among elements stands somewhere, and what stands somewhere is among them
pub has_one : (P : Object → Type 0) (es : List Element) → OneHas P es → (j : ℕ) × (o : Object) × HasAt es j o × P o
has_one P [] h = absurd h
has_one P (e ∷ es) (inl h) = of e.object refl h
  where
    of : (x : Option Object) → e.object ≡ x → OfObject P x → (j : ℕ) × (o : Object) × HasAt (e ∷ es) j o × P o
    of None k h = absurd h
    of (Some o) k h = (0, o, record { element = e; is_there = refl; object = k }, h)
has_one P (e ∷ es) (inr h) = let (j, o, is, p) = has_one P es h in (suc j, o, record { element = is.element; is_there = is.is_there; object = is.object }, p)

pub one_has : (P : Object → Type 0) (es : List Element) (j : ℕ) (o : Object) → HasAt es j o → P o → OneHas P es
one_has P [] j o is p = let k : None ≡ Some is.element = is.is_there in cc
one_has P (e ∷ es) zero o is p = inl (subst (OfObject P) (sym (ap (λ (x : Element). x.object) (some_injective is.is_there) ∙ is.object)) p)
one_has P (e ∷ es) (suc j) o is p = inr (one_has P es j o (record { element = is.element; is_there = is.is_there; object = is.object }) p)

-- two of them
pub twice_found : (es : List Element) → IsNamedTwice es → (i j : ℕ) × (o p : Object) × (i < j) × HasAt es i o × HasAt es j p × (p.form ≡ o.form)
twice_found [] h = absurd h
twice_found (e ∷ es) (inl h) = of e.object refl h
  where
    of : (x : Option Object) → e.object ≡ x → OfObject (λ v. OneHas (λ w. w.form ≡ v.form) es) x → (i j : ℕ) × (o p : Object) × (i < j) × HasAt (e ∷ es) i o × HasAt (e ∷ es) j p × (p.form ≡ o.form)
    of None k h = absurd h
    of (Some o) k h =
        let (j, p, is, same) = has_one (λ w. w.form ≡ o.form) es h in
        (0, suc j, o, p, omega arith, record { element = e; is_there = refl; object = k }, record { element = is.element; is_there = is.is_there; object = is.object }, same)
twice_found (e ∷ es) (inr h) =
    let (i, j, o, p, less, is, also, same) = twice_found es h in
    (suc i, suc j, o, p, omega (arith, less), record { element = is.element; is_there = is.is_there; object = is.object }, record { element = also.element; is_there = also.is_there; object = also.object }, same)

pub found_twice : (es : List Element) (i j : ℕ) (o p : Object) → i < j → HasAt es i o → HasAt es j p → p.form ≡ o.form → IsNamedTwice es
found_twice [] i j o p less is also same = let k : None ≡ Some is.element = is.is_there in cc
found_twice (e ∷ es) i zero o p less is also same = absurd (never less)
  where
    never : i < 0 → ⊥
    never h = omega (arith, h)
found_twice (e ∷ es) zero (suc j) o p less is also same =
    inl (subst (OfObject (λ v. OneHas (λ w. w.form ≡ v.form) es)) (sym (ap (λ (x : Element). x.object) (some_injective is.is_there) ∙ is.object))
    (one_has (λ w. w.form ≡ o.form) es j p (record { element = also.element; is_there = also.is_there; object = also.object }) same))
found_twice (e ∷ es) (suc i) (suc j) o p less is also same =
    inr (found_twice es i j o p (omega (arith, less)) (record { element = is.element; is_there = is.is_there; object = is.object }) (record { element = also.element; is_there = also.is_there; object = also.object }) same)

module _ (sig : Signature) (ok : IsAccepted sig) (K : Classes) where
  pub kept_at : (es : List Element) → AreKept sig K es → (i : ℕ) (e : Element) → slice_get es i ≡ Some e → IsKept sig K e
  kept_at [] h i e k = let n : None ≡ Some e = k in cc
  kept_at (d ∷ es) (h, hs) zero e k = subst (IsKept sig K) (some_injective k) h
  kept_at (d ∷ es) (h, hs) (suc i) e k = kept_at es hs i e k

  -- an object that is kept is one of the side, and the other way round
  pub record IsObjectAt (t : RawTerm) (j : ℕ) (o : Object) : Type 0 where
    pub element : RawTerm
    pub has : HasObject K t (suc j) (seen_object o)
    pub kept : IsKeptObject sig K element o

  pub holds : {t : RawTerm} {es : List Element} → AreOfSide sig K t es → (j : ℕ) (o : Object) → HasAt es j o → IsObjectAt t j o
  holds {t = t} {es = es} side j o is =
      let kept : IsKeptObject sig K (raw_term is.element.term.now) o = subst (IsObjectOf sig K (raw_term is.element.term.now)) is.object (kept_at es side.kept j is.element is.is_there) in
      record {
        element = raw_term is.element.term.now;
        has = record { element = raw_term is.element.term.now; is_there = ap (λ ts. slice_get ts j) (sym side.terms) ∙ seen_at es j is.element is.is_there; written = kept.written };
        kept = kept;
      }

  pub record IsHeld (t : RawTerm) (es : List Element) (i : ℕ) (w : Written) : Type 0 where
    pub index : ℕ
    pub number : i ≡ suc index
    pub object : Object
    pub at : HasAt es index object
    pub is : seen_object object ≡ w
    pub element : RawTerm
    pub kept : IsKeptObject sig K element object

  pub held : {t : RawTerm} {es : List Element} → AreOfSide sig K t es → (i : ℕ) (w : Written) → HasObject K t i w → IsHeld t es i w
  held side zero w h = let k : None ≡ Some h.element = h.is_there in cc
  held {t = t} {es = es} side (suc j) w h =
      let (e, is, term) = at_seen es j h.element (ap (λ ts. slice_get ts j) side.terms ∙ h.is_there) in
      of e is term e.object refl (kept_at es side.kept j e is)
    where
      of : (e : Element) → slice_get es j ≡ Some e → raw_term e.term.now ≡ h.element → (x : Option Object) → e.object ≡ x → IsObjectOf sig K (raw_term e.term.now) x → IsHeld t es (suc j) w
      of e is term None k other = absurd (other w (subst (λ u. IsWritten K u w) (sym term) h.written))
      of e is term (Some o) k kept = record {
        index = j;
        number = refl;
        object = o;
        at = record { element = e; is_there = is; object = k };
        is = written_once K (seen_object o) w kept.written (subst (λ u. IsWritten K u w) (sym term) h.written);
        element = raw_term e.term.now;
        kept = kept;
      }

  -- names are equal modulo the axioms exactly where their canonical forms are one
  pub one_name : {s t : RawTerm} {o p : Object} → IsKeptObject sig K s o → IsKeptObject sig K t p → o.form ≡ p.form → AreOfOneName sig K (seen_object o) (seen_object p)
  one_name h k e = (equal_by_normal_form sig ok h.raw k.raw).1 (sym h.form ∙ e ∙ k.form)

  pub one_form : {s t : RawTerm} {o p : Object} → IsKeptObject sig K s o → IsKeptObject sig K t p → AreOfOneName sig K (seen_object o) (seen_object p) → o.form ≡ p.form
  one_form h k e = h.form ∙ (equal_by_normal_form sig ok h.raw k.raw).0 e ∙ sym k.form

  module _ (t : RawTerm) (es : List Element) (side : AreOfSide sig K t es) where
    pub has_twice : IsNamedTwice es → HasTwice sig K t
    has_twice h =
        let (i, j, o, p, less, is, also, same) = twice_found es h in
        let v = holds side i o is in
        let w = holds side j p also in
        record { i = suc i; j = suc j; first = seen_object o; second = seen_object p; first_is = v.has; second_is = w.has; differ = omega (arith, less); one_name = one_name v.kept w.kept (sym same) }

    pub twice_has : HasTwice sig K t → IsNamedTwice es
    twice_has h =
        let v = held side h.i h.first h.first_is in
        let w = held side h.j h.second h.second_is in
        let less : v.index < w.index = let a = v.number in let b = w.number in let c = h.differ in omega (arith, a, b, c) in
        let same : AreOfOneName sig K (seen_object v.object) (seen_object w.object) = subst (λ x. AreOfOneName sig K x (seen_object w.object)) (sym v.is) (subst (AreOfOneName sig K h.first) (sym w.is) h.one_name) in
        found_twice es v.index w.index v.object w.object less v.at w.at (sym (one_form v.kept w.kept same))

    pub has_repetition : OneHas Repeats es → HasRepetition sig K t
    has_repetition h =
        let (j, o, is, r) = has_one Repeats es h in
        record { i = suc j; object = seen_object o; is = (holds side j o is).has; repeated = r }

    pub repetition_has : HasRepetition sig K t → OneHas Repeats es
    repetition_has h =
        let v = held side h.i h.object h.is in
        one_has Repeats es v.index v.object v.at (subst (λ (x : Written). IsTrue (repeats x.attributes)) (sym v.is) h.repeated)

  module _ (left right : RawTerm) (ls rs : List Element) (of_left : AreOfSide sig K left ls) (of_right : AreOfSide sig K right rs) where
    pub changes : OneHas (λ v. OneHas (IsOfOtherClass v) rs) ls → ChangesClass sig K left right
    changes h =
        let (i, o, is, k) = has_one (λ v. OneHas (IsOfOtherClass v) rs) ls h in
        let (j, p, also, other) = has_one (IsOfOtherClass o) rs k in
        let v = holds of_left i o is in
        let w = holds of_right j p also in
        record { i = suc i; j = suc j; before = seen_object o; after = seen_object p; before_is = v.has; after_is = w.has; one_name = one_name v.kept w.kept (sym other.0); differ = λ e. other.1 (sym e) }

    pub changed : ChangesClass sig K left right → OneHas (λ v. OneHas (IsOfOtherClass v) rs) ls
    changed h =
        let v = held of_left h.i h.before h.before_is in
        let w = held of_right h.j h.after h.after_is in
        let same : AreOfOneName sig K (seen_object v.object) (seen_object w.object) = subst (λ x. AreOfOneName sig K x (seen_object w.object)) (sym v.is) (subst (AreOfOneName sig K h.before) (sym w.is) h.one_name) in
        one_has (λ v. OneHas (IsOfOtherClass v) rs) ls v.index v.object v.at
        (one_has (IsOfOtherClass v.object) rs w.index w.object w.at
        (sym (one_form v.kept w.kept same), λ e. h.differ (ap (λ (x : Written). x.class) (sym v.is) ∙ sym e ∙ ap (λ (x : Written). x.class) w.is)))

    abbrev pub AreBad : Type 0
    AreBad = IsNamedTwice ls ⊎ (IsNamedTwice rs ⊎ (OneHas Repeats ls ⊎ (OneHas Repeats rs ⊎ OneHas (λ v. OneHas (IsOfOtherClass v) rs) ls)))

    pub bad : AreBad → IsBad sig K left right
    bad (inl h) = twice_left (has_twice left ls of_left h)
    bad (inr (inl h)) = twice_right (has_twice right rs of_right h)
    bad (inr (inr (inl h))) = repetition_left (has_repetition left ls of_left h)
    bad (inr (inr (inr (inl h)))) = repetition_right (has_repetition right rs of_right h)
    bad (inr (inr (inr (inr h)))) = other_class (changes h)

    pub are_bad : IsBad sig K left right → AreBad
    are_bad (twice_left h) = inl (twice_has left ls of_left h)
    are_bad (twice_right h) = inr (inl (twice_has right rs of_right h))
    are_bad (repetition_left h) = inr (inr (inl (repetition_has left ls of_left h)))
    are_bad (repetition_right h) = inr (inr (inr (inl (repetition_has right rs of_right h))))
    are_bad (other_class h) = inr (inr (inr (inr (changed h))))

-- one element more is kept
kept_push : (sig : Signature) (K : Classes) (es : List Element) (e : Element) → AreKept sig K es → IsKept sig K e → AreKept sig K (es ++ e ∷ [])
kept_push sig K [] e h k = (k, tt)
kept_push sig K (d ∷ es) e (h, hs) k = (h, kept_push sig K es e hs k)

pub one_kept : (sig : Signature) (K : Classes) (ts : List (Bor Raw)) (i : ℕ) (r : Bor Raw) (found found' : List Element) (e : Element) (all : List RawTerm) → i < length ts → r ≡ get_or ts i r → found' ≡ found ++ e ∷ []
    → raw_term e.term.now ≡ raw_term r.now → IsKept sig K e → terms_seen found ++ all_seen (drop i ts) ≡ all → AreKept sig K found → AreRaw sig (all_seen (drop i ts))
    → (terms_seen found' ++ all_seen (drop (i + 1) ts) ≡ all) × AreKept sig K found' × AreRaw sig (all_seen (drop (i + 1) ts))
one_kept sig K ts i r found found' e all h is p same kept terms keeps raw =
    let first : drop i ts ≡ r ∷ drop (i + 1) ts = drop_at ts i r h is in (
      ap (λ es. terms_seen es ++ all_seen (drop (i + 1) ts)) p
          ∙ moved (λ (x : Element). raw_term x.term.now) found e (raw_term r.now) (all_seen (drop (i + 1) ts)) all same (ap (λ rs. terms_seen found ++ all_seen rs) (sym first) ∙ terms),
      subst (AreKept sig K) (sym p) (kept_push sig K found e keeps kept),
      (subst (λ rs. AreRaw sig (all_seen rs)) first raw).1,
    )
