-- Terms are gone through one by one, and those that have one of some numbers are set apart.
use Rattle.std.specs.Prelude.{◌≡◌, ◌+◌, ◌-◌, ◌<◌, ◌≤◌, ℕ, suc, List, [], ◌∷◌, ◌++◌, take, drop, length, get_or, zero, refl}
use Rattle.std.proofs.Common.{ap, sym, ◌∙◌, arith, add-one, drop-cons, drop_of_length-le}
use Rattle.mw_logic.specs.Term.{RawTerm, RawTerms, cons, join}
use Rattle.mw_logic.specs.Terms.{terms_of}
use Rattle.mw_logic.proofs.Canonical.{nat_eq-refl}
use Rattle.mw_logic.proofs.SortLaws.{join-nil}
use Rattle.mw_logic.proofs.Pushed.{join_pushed}
use Rattle.mw_arguments.specs.Places.{chosen}
use Rattle.mw_arguments.proofs.Middles.{differ}
use Rattle.mw_redex.proofs.Exchanged.{first_and_rest}
use Rattle.mw_spot.proofs.Picked.{chosen_nil}

-- the first of those that are to come
pub first_to_come : {A : Type 0} (xs ys : List A) (i : ℕ) (t : A) → t ∷ ys ≡ drop i xs → (i < length xs) × (t ≡ get_or xs i t) × (ys ≡ drop (i + 1) xs)
first_to_come [] ys zero t e = cc
first_to_come [] ys (suc i) t e = cc
first_to_come (x ∷ xs) ys zero t e = (omega arith, same_head e, same_tail e)
  where
    same_head : t ∷ ys ≡ x ∷ xs → t ≡ x
    same_head e = cc

    same_tail : t ∷ ys ≡ x ∷ xs → ys ≡ xs
    same_tail e = cc
first_to_come (x ∷ xs) ys (suc i) t e =
    let r = first_to_come xs ys i t e in
    let l = r.0 in
    let z : suc (i + 1) ≡ suc i + 1 = omega arith in
    (omega (arith, l), r.1, r.2 ∙ ap (λ n. drop n (x ∷ xs)) z)

-- there are none
pub none_to_come : {A : Type 0} (xs : List A) (i : ℕ) → drop i xs ≡ [] → length xs ≤ i
none_to_come [] i e = omega arith
none_to_come (x ∷ xs) zero e = cc
none_to_come (x ∷ xs) (suc i) e = let r = none_to_come xs i e in omega (arith, r)

terms_at : (ts : List RawTerm) (i : ℕ) (t : RawTerm) → i < length ts → t ≡ get_or ts i t → terms_of (drop i ts) ≡ cons t (terms_of (drop (i + 1) ts))
terms_at ts i t h e = ap terms_of (drop-cons ts i t h) ∙ rw (← e, add-one) refl

-- a term that is taken
pub turn_taken : (new old : List RawTerm) (i : ℕ) (ns now : List ℕ) (ts : List RawTerm) (t u : RawTerm) (all : RawTerms) → i < length ts → t ≡ get_or ts i t → u ≡ t → new ≡ old ++ u ∷ [] → 1 ≤ length ns → get_or ns 0 0 ≡ i + 1
    → now ≡ take (length ns - 1) (drop 1 ns) → join (terms_of old) (chosen (i + 1) ns (terms_of (drop i ts))) ≡ all → join (terms_of new) (chosen (i + 1 + 1) now (terms_of (drop (i + 1) ts))) ≡ all
turn_taken new old i ns now ts t u all h e f g l n r inv =
    let us : RawTerms = terms_of (drop (i + 1) ts) in
    let z : i + 1 + 1 ≡ suc (i + 1) = omega arith in
    let first : ns ≡ (i + 1) ∷ now = first_and_rest ns l ∙ ap (λ k. k ∷ take (length ns - 1) (drop 1 ns)) n ∙ ap (λ ks. (i + 1) ∷ ks) (sym r) in
    let step : chosen (i + 1) ns (terms_of (drop i ts)) ≡ cons t (chosen (suc (i + 1)) now us) =
    ap (λ ks. chosen (i + 1) ks (terms_of (drop i ts))) first ∙ ap (chosen (i + 1) ((i + 1) ∷ now)) (terms_at ts i t h e) ∙ rw (nat_eq-refl (i + 1)) refl in
    ap (λ xs. join (terms_of xs) (chosen (i + 1 + 1) now us)) (g ∙ ap (λ x. old ++ x ∷ []) f) ∙ join_pushed old t (chosen (i + 1 + 1) now us) ∙ ap (λ j. join (terms_of old) (cons t (chosen j now us))) z
    ∙ ap (join (terms_of old)) (sym step) ∙ inv

passed_over : (i : ℕ) (ns : List ℕ) (t : RawTerm) (ts : RawTerms) → (get_or ns 0 0 ≡ i → ⊥) → chosen i ns (cons t ts) ≡ chosen (suc i) ns ts
passed_over i [] t ts h = refl
passed_over i (n ∷ ns) t ts h = rw (differ i n (λ e. h (sym e))) refl

-- one that is not
pub turn_left : (new old : List RawTerm) (i : ℕ) (ns now : List ℕ) (ts : List RawTerm) (t : RawTerm) (all : RawTerms) → i < length ts → t ≡ get_or ts i t → new ≡ old → now ≡ ns → (get_or ns 0 0 ≡ i + 1 → ⊥)
    → join (terms_of old) (chosen (i + 1) ns (terms_of (drop i ts))) ≡ all → join (terms_of new) (chosen (i + 1 + 1) now (terms_of (drop (i + 1) ts))) ≡ all
turn_left new old i ns now ts t all h e g r d inv =
    let us : RawTerms = terms_of (drop (i + 1) ts) in
    let z : i + 1 + 1 ≡ suc (i + 1) = omega arith in
    let step : chosen (i + 1) ns (terms_of (drop i ts)) ≡ chosen (suc (i + 1)) ns us = ap (chosen (i + 1) ns) (terms_at ts i t h e) ∙ passed_over (i + 1) ns t us d in
    ap (λ xs. join (terms_of xs) (chosen (i + 1 + 1) now us)) g ∙ ap (λ ks. join (terms_of old) (chosen (i + 1 + 1) ks us)) r ∙ ap (λ j. join (terms_of old) (chosen j ns us)) z
    ∙ ap (join (terms_of old)) (sym step) ∙ inv

-- all were gone through
pub all_taken : (made : RawTerms) (i : ℕ) (ns : List ℕ) (ts : List RawTerm) (all : RawTerms) → length ts ≤ i → join made (chosen (i + 1) ns (terms_of (drop i ts))) ≡ all → made ≡ all
all_taken made i ns ts all h inv =
    sym (join-nil made) ∙ ap (join made) (sym (chosen_nil (i + 1) ns) ∙ ap (λ us. chosen (i + 1) ns (terms_of us)) (sym (drop_of_length-le ts h))) ∙ inv
