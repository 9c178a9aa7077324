-- The order of terms, by operator and number of arguments first.
use Rattle.std.specs.Prelude.{◌≡◌, ◌<◌, ◌≤◌, ◌⊎◌, ℕ, List, [], ◌∷◌, length, drop, min, true, false, refl}
use Rattle.std.specs.declared.cmp.Ordering.{Ordering}
use Rattle.std.specs.declared.cmp.Ordering.TheVariants.{Less, Equal, Greater}
use Rattle.std.specs.Ordering.{is_ne, ordering_then, nat_cmp}
use Rattle.std.proofs.Common.{inl, inr, arith, sym, ◌∙◌, drop_of_length-le}
use Rattle.std.proofs.lemmas.Bool.{cases_lt}
use Rattle.mw_logic.specs.Term.{RawTerm, RawTerms, apply, nil, cons}
use Rattle.mw_logic.specs.Terms.{terms_of}
use Rattle.mw_logic.specs.Parts.{number_of_terms}
use Rattle.mw_logic.specs.TermOrder.{order_terms, order_lists}

number_of-terms_of : (ts : List RawTerm) → number_of_terms (terms_of ts) ≡ length ts
number_of-terms_of [] = refl
number_of-terms_of (t ∷ ts) = rw (number_of-terms_of ts) refl

-- two operator terms, by their tops and then by their arguments
applied_order : (f g : ℕ) (ts us : List RawTerm) → order_terms (apply f (terms_of ts)) (apply g (terms_of us)) ≡ ordering_then (nat_cmp f g) (ordering_then (nat_cmp (length ts) (length us)) (order_lists (terms_of ts) (terms_of us)))
applied_order f g ts us = rw (number_of-terms_of ts, number_of-terms_of us) refl

first_differs : (o p l : Ordering) → is_ne (ordering_then o p) ≡ true → ordering_then o p ≡ ordering_then o (ordering_then p l)
first_differs Less p l h = refl
first_differs Equal Less l h = refl
first_differs Equal Equal l h = cc
first_differs Equal Greater l h = refl
first_differs Greater p l h = refl

first_ties : (o p l : Ordering) → is_ne (ordering_then o p) ≡ false → l ≡ ordering_then o (ordering_then p l)
first_ties Less p l h = cc
first_ties Equal Less l h = cc
first_ties Equal Equal l h = refl
first_ties Equal Greater l h = cc
first_ties Greater p l h = cc

pub by_tops : (f g : ℕ) (ts us : List RawTerm) (tops : Ordering) → tops ≡ ordering_then (nat_cmp f g) (nat_cmp (length ts) (length us)) → is_ne tops ≡ true → tops ≡ order_terms (apply f (terms_of ts)) (apply g (terms_of us))
by_tops f g ts us tops e h =
    let k : is_ne (ordering_then (nat_cmp f g) (nat_cmp (length ts) (length us))) ≡ true = rw e at h in
    e ∙ first_differs (nat_cmp f g) (nat_cmp (length ts) (length us)) (order_lists (terms_of ts) (terms_of us)) k ∙ sym (applied_order f g ts us)

pub by_arguments : (f g : ℕ) (ts us : List RawTerm) (tops : Ordering) → tops ≡ ordering_then (nat_cmp f g) (nat_cmp (length ts) (length us)) → is_ne tops ≡ false → order_lists (terms_of ts) (terms_of us) ≡ order_terms (apply f (terms_of ts)) (apply g (terms_of us))
by_arguments f g ts us tops e h =
    let k : is_ne (ordering_then (nat_cmp f g) (nat_cmp (length ts) (length us))) ≡ false = rw e at h in
    first_ties (nat_cmp f g) (nat_cmp (length ts) (length us)) (order_lists (terms_of ts) (terms_of us)) k ∙ sym (applied_order f g ts us)

order_lists-nil : (ts : RawTerms) → order_lists ts nil ≡ Equal
order_lists-nil nil = refl
order_lists-nil (cons t ts) = refl

-- where one of two lists has ended
pub lists_past : (xs ys : List RawTerm) (i : ℕ) → min (length xs) (length ys) ≤ i → order_lists (terms_of (drop i xs)) (terms_of (drop i ys)) ≡ Equal
lists_past xs ys i h = of (cases_lt i (length xs))
  where
    of : (i < length xs) ⊎ (length xs ≤ i) → order_lists (terms_of (drop i xs)) (terms_of (drop i ys)) ≡ Equal
    of (inl k) = let l : length ys ≤ i = omega (arith, h, k) in rw (drop_of_length-le ys l) (order_lists-nil (terms_of (drop i xs)))
    of (inr k) = rw (drop_of_length-le xs k) refl
