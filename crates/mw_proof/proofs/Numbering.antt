-- The numbers of some arguments, one argument after another.
use Rattle.std.specs.Prelude.{◌≡◌, ◌≤◌, ◌<◌, ◌+◌, ◌-◌, ℕ, suc, List, [], ◌∷◌, ◌++◌, length, take, drop, true, false, refl}
use Rattle.std.proofs.Common.{sym, ap, ◌∙◌, arith, append_assoc, append-nil, get_or}
use Rattle.std.proofs.lemmas.List.{take_all}
use Rattle.mw_logic.specs.Term.{RawTerm, RawTerms, nil, cons}
use Rattle.mw_logic.specs.Terms.{terms_of}
use Rattle.mw_arguments.specs.Bags.{same}
use Rattle.mw_arguments.specs.Places.{numbers_of}

-- the first of a list, and the rest
first_rest : (zs : List RawTerm) (z : RawTerm) → 1 ≤ length zs → z ≡ get_or zs 0 z → terms_of zs ≡ cons z (terms_of (take (length zs - 1) (drop 1 zs)))
first_rest [] z h e = absurd (omega (arith, h))
first_rest (y ∷ ys) z h e = let l : length ys ≤ suc (length ys) - 1 = omega arith in ap (λ x. cons x (terms_of ys)) (sym e) ∙ ap (λ xs. cons z (terms_of xs)) (sym (take_all (suc (length ys) - 1) ys l))

number_first : (i : ℕ) (ts zs ts1 zs1 : RawTerms) (u z : RawTerm) → ts ≡ cons u ts1 → zs ≡ cons z zs1 → same u z ≡ true → numbers_of i ts zs ≡ i ∷ numbers_of (suc i) ts1 zs1
number_first i ts zs ts1 zs1 u z e f s = rw (e, f, s) refl

number_later : (i : ℕ) (ts zs zs1 : RawTerms) (z : RawTerm) → ((u : RawTerm) (us : RawTerms) → ts ≡ cons u us → same u z ≡ false) → zs ≡ cons z zs1 → numbers_of i ts zs ≡ numbers_of (suc i) ts zs1
number_later i nil zs zs1 z n f = refl
number_later i (cons u us) zs zs1 z n f = let s : same u z ≡ false = n u us refl in rw (f, s) refl

module _ (all : List ℕ) (zs : List RawTerm) (z : RawTerm) (there : 1 ≤ length zs) (is : z ≡ get_or zs 0 z) (i m : ℕ) (number : m ≡ i + 1) (made : List ℕ) where
  abbrev after : RawTerms
  after = terms_of (take (length zs - 1) (drop 1 zs))

  -- it is one of them
  pub number_taken : (ts more : RawTerms) (u : RawTerm) (next : List ℕ) → next ≡ made ++ m ∷ [] → ts ≡ cons u more → same u z ≡ true → made ++ numbers_of (suc i) ts (terms_of zs) ≡ all → next ++ numbers_of (suc m) more after ≡ all
  number_taken ts more u next pushed e s h =
      let n : m ≡ suc i = omega (arith, number) in
      ap (λ ns. ns ++ numbers_of (suc m) more after) pushed ∙ append_assoc made (m ∷ []) (numbers_of (suc m) more after) ∙ ap (λ j. made ++ j ∷ numbers_of (suc j) more after) n
      ∙ ap (λ ns. made ++ ns) (sym (number_first (suc i) ts (terms_of zs) more after u z e (first_rest zs z there is) s)) ∙ h

  -- it is none of them
  pub number_passed : (ts : RawTerms) → ((u : RawTerm) (us : RawTerms) → ts ≡ cons u us → same u z ≡ false) → made ++ numbers_of (suc i) ts (terms_of zs) ≡ all → made ++ numbers_of (suc m) ts after ≡ all
  number_passed ts n h =
      let e : m ≡ suc i = omega (arith, number) in
      ap (λ j. made ++ numbers_of (suc j) ts after) e ∙ ap (λ ns. made ++ ns) (sym (number_later (suc i) ts (terms_of zs) after z n (first_rest zs z there is))) ∙ h

no_numbers : (i : ℕ) (ts : RawTerms) → numbers_of i ts nil ≡ []
no_numbers i nil = refl
no_numbers i (cons u us) = refl

-- at the end
pub numbers_all : (all made : List ℕ) (i : ℕ) (ts : RawTerms) (zs : List RawTerm) → length zs < 1 → made ++ numbers_of i ts (terms_of zs) ≡ all → made ≡ all
numbers_all all made i ts [] l h = sym (append-nil made) ∙ ap (λ ns. made ++ ns) (sym (no_numbers i ts)) ∙ h
numbers_all all made i ts (z ∷ zs) l h = absurd (omega (arith, l))
