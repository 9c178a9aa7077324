-- What fits a position is one element under each operator that is listed there.
use Rattle.std.specs.Prelude.{◌≡◌, ℕ, List, [], ◌∷◌, Bool, true, false, ◌||◌, nat_eq, Option, refl}
use Rattle.std.proofs.Common.{sym, subst}
use Rattle.std.proofs.lemmas.Bool.{and_parts, not-true, eqb-true}
use Rattle.mw_logic.specs.Term.{RawTerm, numeral, quoted, variable, apply, nil, cons}
use Rattle.mw_logic.specs.Signature.{Signature, Identity}
use Rattle.mw_logic.specs.NormalForm.{identity_of, is_identity, own_arguments}
use Rattle.mw_logic.proofs.Canonical.{IsElement}
use Rattle.mw_matching.specs.Patterns.{AreSingle}
use Rattle.mw_matching.specs.Found.{stands, is_element, is_element_under_all, is_among, operators_at, fits, is_single}

-- a term without f on top is its own argument
own_alone : (f : ℕ) (t : RawTerm) → stands f t ≡ false → own_arguments f t ≡ cons t nil
own_alone f (numeral n) h = refl
own_alone f (quoted q) h = refl
own_alone f (variable x) h = refl
own_alone f (apply g nil) h = refl
own_alone f (apply g (cons t ts)) h = rw h refl

element : (e : Option Identity) (f : ℕ) (t : RawTerm) → is_element e f t ≡ true → IsElement e f t
element e f t h = let (n, s) = and_parts _ _ h in rw (not-true (is_identity e t) n) (own_alone f t (not-true (stands f t) s))

among_element : (sig : Signature) (f : ℕ) (fs : List ℕ) (t : RawTerm) → is_among f fs ≡ true → is_element_under_all sig fs t ≡ true → is_element (identity_of sig f) f t ≡ true
among_element sig f [] t a b = cc
among_element sig f (g ∷ gs) t a b = let (first, others) = and_parts _ _ b in by_test first (nat_eq f g) refl a (λ r. among_element sig f gs t r others)
  where
    by_test : is_element (identity_of sig g) g t ≡ true → (x : Bool) → nat_eq f g ≡ x → (x || is_among f gs) ≡ true
        → (is_among f gs ≡ true → is_element (identity_of sig f) f t ≡ true) → is_element (identity_of sig f) f t ≡ true
    by_test first true q a r = subst (λ g. is_element (identity_of sig g) g t ≡ true) (sym (eqb-true f g q)) first
    by_test first false q a r = r a

pub fitting_element : (sig : Signature) (single : List (List ℕ)) (f i : ℕ) (u : RawTerm) → is_single single f i ≡ true → fits sig single i u ≡ true → IsElement (identity_of sig f) f u
fitting_element sig single f i u s h = element (identity_of sig f) f u (among_element sig f (operators_at single i) u s h)

pub fits_single : (sig : Signature) (single : List (List ℕ)) → AreSingle sig (fits sig single) (is_single single)
fits_single sig single f i u s k h = fitting_element sig single f i u s h
