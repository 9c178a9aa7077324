-- Terms that are put behind others, one after another, while some are left out or exchanged.
use Rattle.std.specs.Prelude.{◌≡◌, ◌+◌, ◌-◌, ◌<◌, ◌≤◌, ℕ, suc, List, [], ◌∷◌, ◌++◌, take, drop, length, get_or, refl}
use Rattle.std.proofs.Common.{ap, sym, ◌∙◌, arith, add-one, drop-cons, drop_of_length-le}
use Rattle.std.proofs.Math.Seq.{take-length}
use Rattle.std.proofs.lemmas.Bool.{eq-eqb}
use Rattle.mw_logic.specs.Term.{RawTerm, numeral, RawTerms, nil, cons, join}
use Rattle.mw_logic.specs.Terms.{terms_of}
use Rattle.mw_logic.proofs.SortLaws.{join-nil}
use Rattle.mw_logic.proofs.Pushed.{terms_of-append, join_pushed}
use Rattle.mw_arguments.specs.Places.{others}
use Rattle.mw_redex.specs.Replaced.{exchanged}
use Rattle.mw_redex.proofs.Middles.{differ}

-- the terms from index i on
terms_at : (ts : List RawTerm) (i : ℕ) (t : RawTerm) → i < length ts → t ≡ get_or ts i t → terms_of (drop i ts) ≡ cons t (terms_of (drop (i + 1) ts))
terms_at ts i t h e = ap terms_of (drop-cons ts i t h) ∙ rw (← e, add-one) refl

some_term : (ts : List RawTerm) (i : ℕ) → i < length ts → terms_of (drop i ts) ≡ cons (get_or ts i (numeral 0)) (terms_of (drop (i + 1) ts))
some_term ts i h = ap terms_of (drop-cons ts i (numeral 0) h) ∙ rw add-one refl

-- the first of the numbers, and those behind it
pub first_and_rest : (ns : List ℕ) → 1 ≤ length ns → ns ≡ get_or ns 0 0 ∷ take (length ns - 1) (drop 1 ns)
first_and_rest [] h = absurd (omega arith)
first_and_rest (n ∷ ns) h = let z : length ns ≡ length (n ∷ ns) - 1 = omega arith in ap (λ r. n ∷ r) (sym (take-length ns) ∙ ap (λ k. take k ns) z)

pub rest_shorter : (ns : List ℕ) → 1 ≤ length ns → length (take (length ns - 1) (drop 1 ns)) < length ns
rest_shorter ns h = omega (arith, ap length (first_and_rest ns h))

pub none_first : (ns : List ℕ) (i : ℕ) → length ns < 1 → get_or ns 0 0 ≡ i + 1 → ⊥
none_first [] i h e = omega (arith, e)
none_first (n ∷ ns) i h e = omega arith

-- a term that is left out
pub left_out : (made : RawTerms) (i : ℕ) (ns more : List ℕ) (ts : List RawTerm) (all : RawTerms) → i < length ts → ns ≡ (i + 1) ∷ more → join made (others (i + 1) ns (terms_of (drop i ts))) ≡ all
    → join made (others (i + 1 + 1) more (terms_of (drop (i + 1) ts))) ≡ all
left_out made i ns more ts all h e inv =
    let z : i + 1 + 1 ≡ suc (i + 1) = omega arith in
    let step : others (i + 1) ((i + 1) ∷ more) (cons (get_or ts i (numeral 0)) (terms_of (drop (i + 1) ts))) ≡ others (suc (i + 1)) more (terms_of (drop (i + 1) ts)) = rw (eq-eqb (i + 1) (i + 1) refl) refl in
    ap (join made) (ap (λ j. others j more (terms_of (drop (i + 1) ts))) z ∙ sym step ∙ ap (λ ns. others (i + 1) ns (cons (get_or ts i (numeral 0)) (terms_of (drop (i + 1) ts)))) (sym e) ∙ ap (others (i + 1) ns) (sym (some_term ts i h))) ∙ inv

kept_front : (i : ℕ) (ns : List ℕ) (t : RawTerm) (ts : RawTerms) → (get_or ns 0 0 ≡ i → ⊥) → others i ns (cons t ts) ≡ cons t (others (suc i) ns ts)
kept_front i [] t ts h = refl
kept_front i (n ∷ ns) t ts h = rw (differ i n (λ e. h (sym e))) refl

-- a term that stays
pub kept : (made : List RawTerm) (i : ℕ) (ns : List ℕ) (ts : List RawTerm) (t : RawTerm) (all : RawTerms) → i < length ts → t ≡ get_or ts i t → (get_or ns 0 0 ≡ i + 1 → ⊥)
    → join (terms_of made) (others (i + 1) ns (terms_of (drop i ts))) ≡ all → join (terms_of (made ++ t ∷ [])) (others (i + 1 + 1) ns (terms_of (drop (i + 1) ts))) ≡ all
kept made i ns ts t all h e d inv =
    let z : i + 1 + 1 ≡ suc (i + 1) = omega arith in
    join_pushed made t (others (i + 1 + 1) ns (terms_of (drop (i + 1) ts)))
    ∙ ap (join (terms_of made)) (ap (λ j. cons t (others j ns (terms_of (drop (i + 1) ts)))) z ∙ sym (kept_front (i + 1) ns t (terms_of (drop (i + 1) ts)) d) ∙ ap (others (i + 1) ns) (sym (terms_at ts i t h e))) ∙ inv

none_left : (j : ℕ) (ns : List ℕ) → others j ns nil ≡ nil
none_left j [] = refl
none_left j (n ∷ ns) = refl

pub all_kept : (made : RawTerms) (i : ℕ) (ns : List ℕ) (ts : List RawTerm) (all : RawTerms) → length ts ≤ i → join made (others (i + 1) ns (terms_of (drop i ts))) ≡ all → made ≡ all
all_kept made i ns ts all h inv =
    sym (join-nil made) ∙ ap (join made) (sym (none_left (i + 1) ns) ∙ ap (λ us. others (i + 1) ns (terms_of us)) (sym (drop_of_length-le ts h))) ∙ inv

-- the first number is met
pub met : (made : List RawTerm) (i first : ℕ) (more : List ℕ) (x : RawTerm) (ts : List RawTerm) (all : RawTerms) → i < length ts → i + 1 ≡ first
    → join (terms_of made) (exchanged (i + 1) first more x (terms_of (drop i ts))) ≡ all → join (terms_of (made ++ x ∷ [])) (others (i + 1 + 1) more (terms_of (drop (i + 1) ts))) ≡ all
met made i first more x ts all h e inv =
    let z : i + 1 + 1 ≡ suc (i + 1) = omega arith in
    let step : exchanged (i + 1) first more x (cons (get_or ts i (numeral 0)) (terms_of (drop (i + 1) ts))) ≡ cons x (others (suc (i + 1)) more (terms_of (drop (i + 1) ts))) = rw (eq-eqb (i + 1) first e) refl in
    join_pushed made x (others (i + 1 + 1) more (terms_of (drop (i + 1) ts)))
    ∙ ap (join (terms_of made)) (ap (λ j. cons x (others j more (terms_of (drop (i + 1) ts)))) z ∙ sym step ∙ ap (exchanged (i + 1) first more x) (sym (some_term ts i h))) ∙ inv

-- it isn't yet
pub passed : (made : List RawTerm) (i first : ℕ) (more : List ℕ) (x : RawTerm) (ts : List RawTerm) (t : RawTerm) (all : RawTerms) → i < length ts → t ≡ get_or ts i t → (i + 1 ≡ first → ⊥)
    → join (terms_of made) (exchanged (i + 1) first more x (terms_of (drop i ts))) ≡ all → join (terms_of (made ++ t ∷ [])) (exchanged (i + 1 + 1) first more x (terms_of (drop (i + 1) ts))) ≡ all
passed made i first more x ts t all h e d inv =
    let z : i + 1 + 1 ≡ suc (i + 1) = omega arith in
    let step : exchanged (i + 1) first more x (cons t (terms_of (drop (i + 1) ts))) ≡ cons t (exchanged (suc (i + 1)) first more x (terms_of (drop (i + 1) ts))) = rw (differ (i + 1) first d) refl in
    join_pushed made t (exchanged (i + 1 + 1) first more x (terms_of (drop (i + 1) ts)))
    ∙ ap (join (terms_of made)) (ap (λ j. cons t (exchanged j first more x (terms_of (drop (i + 1) ts)))) z ∙ sym step ∙ ap (exchanged (i + 1) first more x) (sym (terms_at ts i t h e))) ∙ inv

-- it never was
pub unmet : (made : List RawTerm) (i first : ℕ) (more : List ℕ) (x : RawTerm) (ts : List RawTerm) (all : RawTerms) → length ts ≤ i
    → join (terms_of made) (exchanged (i + 1) first more x (terms_of (drop i ts))) ≡ all → terms_of (made ++ x ∷ []) ≡ all
unmet made i first more x ts all h inv =
    terms_of-append made (x ∷ []) ∙ ap (λ us. join (terms_of made) (exchanged (i + 1) first more x (terms_of us))) (sym (drop_of_length-le ts h)) ∙ inv

-- a turn of the loop that leaves a term out, or puts it behind the others
pub turn_out : (new old : List RawTerm) (i : ℕ) (ns now : List ℕ) (ts : List RawTerm) (all : RawTerms) → i < length ts → new ≡ old → 1 ≤ length ns → get_or ns 0 0 ≡ i + 1 → now ≡ take (length ns - 1) (drop 1 ns)
    → join (terms_of old) (others (i + 1) ns (terms_of (drop i ts))) ≡ all → join (terms_of new) (others (i + 1 + 1) now (terms_of (drop (i + 1) ts))) ≡ all
turn_out new old i ns now ts all h e l f g inv =
    ap (λ us. join (terms_of us) (others (i + 1 + 1) now (terms_of (drop (i + 1) ts)))) e
    ∙ left_out (terms_of old) i ns now ts all h (first_and_rest ns l ∙ ap (λ n. n ∷ take (length ns - 1) (drop 1 ns)) f ∙ ap (λ r. (i + 1) ∷ r) (sym g)) inv

pub turn_in : (new old : List RawTerm) (i : ℕ) (ns now : List ℕ) (ts : List RawTerm) (t u : RawTerm) (all : RawTerms) → i < length ts → t ≡ get_or ts i t → u ≡ t → new ≡ old ++ u ∷ [] → now ≡ ns → (get_or ns 0 0 ≡ i + 1 → ⊥)
    → join (terms_of old) (others (i + 1) ns (terms_of (drop i ts))) ≡ all → join (terms_of new) (others (i + 1 + 1) now (terms_of (drop (i + 1) ts))) ≡ all
turn_in new old i ns now ts t u all h e f g k d inv =
    ap (λ us. join (terms_of us) (others (i + 1 + 1) now (terms_of (drop (i + 1) ts)))) (g ∙ ap (λ x. old ++ x ∷ []) f)
    ∙ ap (λ r. join (terms_of (old ++ t ∷ [])) (others (i + 1 + 1) r (terms_of (drop (i + 1) ts)))) k ∙ kept old i ns ts t all h e d inv
