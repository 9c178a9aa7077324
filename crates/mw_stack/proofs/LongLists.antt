-- A list of elements that ends those of an operator that is associative and keeps their order.
use Rattle.std.specs.Prelude.{◌≡◌, ◌<◌, ◌≤◌, ℕ, List, [], ◌∷◌, length, drop, true, false, refl, Option, Some, None, not, ◌==◌}
use Rattle.std.proofs.Common.{ap, sym, subst, ◌∙◌, arith}
use Rattle.std.proofs.lemmas.Bool.{eq-eqb}
use Rattle.std.proofs.lemmas.List.{length-drop}
use Rattle.mw_logic.specs.Term.{RawTerm, RawTerms, apply, cons, join}
use Rattle.mw_logic.specs.Terms.{terms_of, args_of}
use Rattle.mw_logic.specs.Signature.{Signature, Identity, constant_of, numeral_of}
use Rattle.mw_logic.specs.Parts.{is_assoc}
use Rattle.mw_logic.specs.NormalForm.{is_comm, identity_of, elements, applied_in}
use Rattle.mw_logic.specs.CanonicalPart.{AreSeveral}
use Rattle.mw_logic.proofs.Canonical.{Each, IsElement}
use Rattle.mw_logic.proofs.Soundness.{IsLong, several-join, rebuilt-several}
use Rattle.mw_canon.proofs.Ordered.{elements_in_order}
use Rattle.mw_stack.specs.Own.{own, spread, own_with}

-- a term with the operator on top of some arguments
pub some_of : (f : ℕ) (ts : List RawTerm) → not (length ts == 0) ≡ true → (u : RawTerm) × (us : RawTerms) × (apply f (terms_of ts) ≡ apply f (cons u us))
some_of f [] h = cc
some_of f (t ∷ ts) h = (t, terms_of ts, refl)

-- is these, under it
list_spread : (sig : Signature) (f : ℕ) (u : RawTerm) (us : RawTerms) → is_assoc sig f ≡ true → spread sig f (apply f (cons u us)) ≡ cons u us
list_spread sig f u us h = rw h (by_identity (identity_of sig f))
  where
    by_identity : (e : Option Identity) → elements e f (apply f (cons u us)) ≡ cons u us
    by_identity None = rw (eq-eqb f f refl) refl
    by_identity (Some (constant_of c)) = rw (eq-eqb f f refl) refl
    by_identity (Some (numeral_of n)) = rw (eq-eqb f f refl) refl

long_of : (xs : List RawTerm) → 0 < length xs → IsLong (terms_of xs)
long_of [] l = absurd (omega arith)
long_of (x ∷ xs) l = tt

own_long : (from : ℕ) (ds : List RawTerm) → from < length ds → IsLong (own from ds)
own_long from ds l = long_of (drop from ds) (omega (arith, l, length-drop from ds))

-- behind others, the operator on all of them is what its axioms make of them
pub list_closed : (sig : Signature) (f from : ℕ) (ds : List RawTerm) (t u : RawTerm) (us : RawTerms) → t ≡ apply f (cons u us) → is_assoc sig f ≡ true → is_comm sig f ≡ false → from < length ds
    → Each (IsElement (identity_of sig f) f) (own_with sig f from ds t) → apply f (join (terms_of (drop from ds)) (args_of t)) ≡ applied_in sig f (own_with sig f from ds t)
list_closed sig f from ds t u us e a m l each =
    let ts : RawTerms = join (own from ds) (cons u us) in
    let w : own_with sig f from ds t ≡ ts = rw (e, m) (ap (join (own from ds)) (list_spread sig f u us a)) in
    let k : Each (IsElement (identity_of sig f) f) ts = subst (Each (IsElement (identity_of sig f) f)) w each in
    ap (λ x. apply f (join (own from ds) (args_of x))) e ∙ sym (rebuilt-several (identity_of sig f) f ts (several-join (own from ds) (cons u us) (own_long from ds l) tt)) ∙ elements_in_order sig f ts a k (rw m refl)
    ∙ ap (applied_in sig f) (sym w)

several_of : (ts : List RawTerm) (us : RawTerms) → 2 ≤ length ts → AreSeveral (join (terms_of ts) us)
several_of [] us l = absurd (omega arith)
several_of (t ∷ []) us l = absurd (omega arith)
several_of (t ∷ u ∷ ts) us l = tt

-- the operator on a list and others behind it is what its axioms make of them
pub list_opened : (sig : Signature) (f : ℕ) (ts : List RawTerm) (us : RawTerms) → is_assoc sig f ≡ true → is_comm sig f ≡ false → 2 ≤ length ts → Each (IsElement (identity_of sig f) f) (join (terms_of ts) us)
    → apply f (join (terms_of ts) us) ≡ applied_in sig f (join (terms_of ts) us)
list_opened sig f ts us a m l each = sym (rebuilt-several (identity_of sig f) f (join (terms_of ts) us) (several_of ts us l)) ∙ elements_in_order sig f (join (terms_of ts) us) a each (rw m refl)

-- a list that is several is what it is under its operator
pub long_spread : (sig : Signature) (f : ℕ) (ts : List RawTerm) → is_assoc sig f ≡ true → 2 ≤ length ts → spread sig f (apply f (terms_of ts)) ≡ terms_of ts
long_spread sig f [] a l = absurd (omega arith)
long_spread sig f (t ∷ ts) a l = list_spread sig f t (terms_of ts) a
