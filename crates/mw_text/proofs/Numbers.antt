-- How digits are read one after another.
use Rattle.std.proofs.Common.{rules, tests, inl, inr, ◌≡◌, ◌⊎◌, ◌<◌, ◌≤◌, ◌+◌, ◌*◌, ◌^◌, ℕ, List, [], ◌∷◌, Bool, true, false, ◌&&◌, nat_lt, Option, None, Some, if◌then◌else◌, refl, arith}
use Rattle.std.specs.Char.{is_ascii_digit, digit_value}
use Rattle.std.specs.Str.{all_ascii_digits}
use Rattle.std.specs.Str.Parse.{digits_value, digits_value_after}
use Rattle.std.proofs.lemmas.Bool.{ltb-true, lt-ltb}
use Rattle.mw_text.specs.Numerals.{are_digits, number_in}

-- the number of digits that stand behind those of n, which may be none
abbrev pub number_behind : ℕ → List ℕ → Option ℕ
number_behind n text = if all_ascii_digits text && nat_lt (digits_value_after 10 n text) (2 ^ 128) then Some (digits_value_after 10 n text) else None

-- a number doesn't shrink by digits behind it
grows : (n : ℕ) (bs : List ℕ) → n ≤ digits_value_after 10 n bs
grows n [] = omega arith
grows n (b ∷ bs) = let more = grows (n * 10 + digit_value b) bs in omega (arith, more)

pub goes_on : (n m b : ℕ) (bs : List ℕ) → is_ascii_digit b ≡ true → m ≡ n * 10 + digit_value b → number_behind n (b ∷ bs) ≡ number_behind m bs
goes_on n m b bs d e = rw (d, e) refl

no_digit : (n b : ℕ) (bs : List ℕ) → is_ascii_digit b ≡ false → number_behind n (b ∷ bs) ≡ None
no_digit n b bs d = rw d refl

too_large : (n b : ℕ) (bs : List ℕ) → 2 ^ 128 ≤ n * 10 + digit_value b → number_behind n (b ∷ bs) ≡ None
too_large n b bs h =
    let more = grows (n * 10 + digit_value b) bs in
    of (is_ascii_digit b && all_ascii_digits bs) (nat_lt (digits_value_after 10 (n * 10 + digit_value b) bs) (2 ^ 128)) (not_below _ (omega (arith, more, h)))
  where
    not_below : (k : ℕ) → 2 ^ 128 ≤ k → nat_lt k (2 ^ 128) ≡ false
    not_below k h = search (rules, tests)

    of : (p q : Bool) → q ≡ false → (if p && q then Some (digits_value_after 10 (n * 10 + digit_value b) bs) else None) ≡ None
    of true true e = cc
    of true false e = refl
    of false q e = refl

pub no_more : (n b : ℕ) (bs : List ℕ) → (is_ascii_digit b ≡ false) ⊎ (2 ^ 128 ≤ n * 10 + digit_value b) → number_behind n (b ∷ bs) ≡ None
no_more n b bs h = elim h [ inl e ↦ no_digit n b bs e | inr e ↦ too_large n b bs e ]

pub at_end : (n : ℕ) → n < 2 ^ 128 → number_behind n [] ≡ Some n
at_end n h = rw (below n h) refl
  where
    below : (k : ℕ) → k < 2 ^ 128 → nat_lt k (2 ^ 128) ≡ true
    below k h = search (rules, tests)

-- what a text is, is below 2^128
pub number_below : (text : List ℕ) (n : ℕ) → number_in text ≡ Some n → n < 2 ^ 128
number_below text n e = of (are_digits text) (nat_lt (digits_value 10 text) (2 ^ 128)) refl e
  where
    of : (p q : Bool) → nat_lt (digits_value 10 text) (2 ^ 128) ≡ q → (if p && q then Some (digits_value 10 text) else None) ≡ Some n → n < 2 ^ 128
    of true true h f = let same : digits_value 10 text ≡ n = (cc) in let below = ltb-true (digits_value 10 text) (2 ^ 128) h in omega (arith, same, below)
    of true false h f = let bad : ⊥ = (cc) in absurd bad
    of false q h f = let bad : ⊥ = (cc) in absurd bad

-- digits whose value is below it are that number
pub number_is : (text : List ℕ) (n : ℕ) → are_digits text ≡ true → digits_value 10 text ≡ n → n < 2 ^ 128 → number_in text ≡ Some n
number_is text n d e h = rw (d, e, lt-ltb n (2 ^ 128) h) refl
