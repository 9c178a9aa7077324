-- The elements of an admitted term that are not too deep are members.
use Rattle.std.specs.Prelude.{◌≡◌, ◌≤◌, ℕ, Bool, true, false, ◌&&◌, ◌||◌, cond, nat_eq, Option, refl}
use Rattle.std.proofs.Common.{sym, subst, ap, ◌∙◌}
use Rattle.std.proofs.lemmas.Bool.{and_parts}
use Rattle.mw_logic.specs.Term.{RawTerm, numeral, quoted, variable, apply, RawTerms, nil, cons, is_ground, are_ground}
use Rattle.mw_logic.specs.Signature.{Signature, Identity}
use Rattle.mw_logic.specs.Accepted.{IsAccepted}
use Rattle.mw_logic.specs.Kinds.{is_successor}
use Rattle.mw_logic.specs.Parts.{is_assoc, nested, all_nested, nest, chain}
use Rattle.mw_logic.specs.NormalForm.{identity_of, is_identity, own_arguments, elements, height, is_largest, has_largest, some_largest}
use Rattle.mw_logic.proofs.Admitted.{admitted-iff}
use Rattle.mw_logic.proofs.Canonical.{Each, IsElement, IsCanonical, canonical, elements_are}
use Rattle.mw_canon.specs.Canonical.{IsAdmittedTerm}
use Rattle.mw_multiset.specs.Together.{parts, IsMember, AreMembers, IsShallow}
use Rattle.mw_multiset.proofs.Together.{all_of}

-- each of a chain is ground where it is
ground_chain : (f : ℕ) (t : RawTerm) (us : RawTerms) → is_ground (chain f t us) ≡ true → are_ground (cons t us) ≡ true
ground_chain f t nil h = rw h refl
ground_chain f t (cons u us) h =
    let (x, y) = and_parts (is_ground t) (is_ground (chain f u us) && true) h in
    let (z, w) = and_parts (is_ground (chain f u us)) true y in
    rw (x, ground_chain f u us z) refl

ground_nest : (m : Bool) (f : ℕ) (ts : RawTerms) → is_ground (nest m f ts) ≡ true → are_ground ts ≡ true
ground_nest false f ts h = h
ground_nest true f nil h = refl
ground_nest true f (cons t us) h = ground_chain f t us h

or_false : (b c : Bool) → (b || c) ≡ false → (b ≡ false) × (c ≡ false)
or_false true c h = cc
or_false false c h = (refl, h)

abbrev Sound : Signature → RawTerm → Type 0
Sound sig x = (is_ground (nested sig x) ≡ true) × (has_largest sig x ≡ false)

each_sound : (sig : Signature) (ts : RawTerms) → are_ground (all_nested sig ts) ≡ true → some_largest sig ts ≡ false → Each (Sound sig) ts
each_sound sig nil g m = tt
each_sound sig (cons t ts) g m =
    let (x, y) = and_parts (is_ground (nested sig t)) (are_ground (all_nested sig ts)) g in
    let (z, w) = or_false (has_largest sig t) (some_largest sig ts) m in
    ((x, z), each_sound sig ts y w)

own_sound : (sig : Signature) (f : ℕ) (t : RawTerm) → Sound sig t → Each (Sound sig) (own_arguments f t)
own_sound sig f (numeral n) h = (h, tt)
own_sound sig f (quoted q) h = (h, tt)
own_sound sig f (variable x) h = (h, tt)
own_sound sig f (apply g nil) h = (h, tt)
own_sound sig f (apply g (cons t ts)) h = by_test (nat_eq f g)
  where
    inside : Each (Sound sig) (cons t ts)
    inside =
        let (x, y) = or_false (is_successor sig g && is_largest (cons t ts)) (some_largest sig (cons t ts)) h.1 in
        each_sound sig (cons t ts) (ground_nest (is_assoc sig g) g (all_nested sig (cons t ts)) h.0) y

    by_test : (m : Bool) → Each (Sound sig) (cond m (cons t ts) (cons (apply g (cons t ts)) nil))
    by_test true = inside
    by_test false = (h, tt)

elements_sound : (sig : Signature) (e : Option Identity) (f : ℕ) (t : RawTerm) → Sound sig t → Each (Sound sig) (elements e f t)
elements_sound sig e f t h = by_test (is_identity e t)
  where
    by_test : (m : Bool) → Each (Sound sig) (cond m nil (own_arguments f t))
    by_test true = tt
    by_test false = own_sound sig f t h

module _ (sig : Signature) (ok : IsAccepted sig) (f : ℕ) (assoc : is_assoc sig f ≡ true) where
  pub admitted_canonical : (t : RawTerm) → IsAdmittedTerm sig t → IsCanonical sig t
  admitted_canonical t h = subst (IsCanonical sig) h.canonical (canonical sig ok (nested sig t))

  sound_admitted : (t : RawTerm) → IsAdmittedTerm sig t → Sound sig t
  sound_admitted t h = let (g, l, m) = (admitted-iff sig ok h.raw).0 h.admitted in (g, ap (has_largest sig) (sym h.canonical) ∙ m)

  each_member : (ts : RawTerms) → Each (IsElement (identity_of sig f) f) ts → Each (IsCanonical sig) ts → Each (Sound sig) ts → Each (λ x. height x ≤ 999) ts → Each (IsMember sig f) ts
  each_member nil a b c d = tt
  each_member (cons t ts) a b c d = (record { canonical = b.0; element = a.0; ground = c.0.0; low = d.0; small = c.0.1 }, each_member ts a.1 b.1 c.1 d.1)

  pub elements_members : (t : RawTerm) → IsAdmittedTerm sig t → IsShallow sig f t → Each (IsMember sig f) (elements (identity_of sig f) f t)
  elements_members t h s =
      let (x, y) = elements_are sig ok f assoc t (admitted_canonical t h) in
      each_member (elements (identity_of sig f) f t) x y (elements_sound sig (identity_of sig f) f t (sound_admitted t h)) s

  pub parts_members : (t : RawTerm) → IsAdmittedTerm sig t → IsShallow sig f t → AreMembers sig f (parts sig f t)
  parts_members t h s = all_of (IsMember sig f) (elements (identity_of sig f) f t) (elements_members t h s)
