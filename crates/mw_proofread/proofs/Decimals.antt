-- Texts of numbers are decimals, as these are printed, as far as they are.
use Rattle.std.proofs.Common.{◌≡◌, ◌∙◌, ◌+◌, ◌/◌, ◌%◌, ◌<◌, ℕ, zero, suc, [], ◌∷◌, ◌++◌, map, refl, ap, sym, arith}
use Rattle.std.specs.Int.Digits.{digits_of}
use Rattle.std.proofs.lemmas.Fmt.{decimal_by_steps_wide}
use Rattle.std.proofs.lemmas.Int.Digits.{digits_of_step}
use Rattle.std.proofs.lemmas.List.{map-append}
use Rattle.mw_proofread.specs.Numbers.{number_text, NumbersAreDecimal}

some_text : (n : ℕ) → 0 < n → number_text n ≡ map (λ d. 48 + d) (digits_of 10 n)
unfolding number_text
some_text zero h = absurd (omega arith)
some_text (suc n) h = refl

stepped : (n : ℕ) → 0 < n → number_text n ≡ map (λ d. 48 + d) (digits_of 10 (n / 10)) ++ ((48 + n % 10) ∷ [])
stepped n h = some_text n h ∙ ap (map (λ d. 48 + d)) (digits_of_step 10 n (omega arith) h) ∙ map-append (λ d. 48 + d) (digits_of 10 (n / 10)) (n % 10 ∷ [])

one_digit : (n : ℕ) → n < 10 → number_text n ≡ (48 + n) ∷ []
unfolding number_text
one_digit zero h = refl
one_digit (suc n) h =
    let q : suc n / 10 ≡ 0 = omega (arith, h) in
    let r : suc n % 10 ≡ suc n = omega (arith, h) in
    stepped (suc n) (omega arith) ∙ ap (λ k. map (λ d. 48 + d) (digits_of 10 k) ++ ((48 + suc n % 10) ∷ [])) q ∙ ap (λ k. (48 + k) ∷ []) r

pub numbers_decimal : NumbersAreDecimal
numbers_decimal n h = decimal_by_steps_wide (λ n ds. number_text n ≡ ds) one_digit (λ n ds l e. stepped n (omega (arith, l)) ∙ ap (λ z. z ++ ((48 + n % 10) ∷ [])) (sym (some_text (n / 10) (omega (arith, l))) ∙ e)) n h
