-- A numeral is a proper token, which is read as its number.
use Rattle.std.proofs.Common.{◌≡◌, ◌<◌, ◌≤◌, ◌+◌, ◌%◌, ◌^◌, ◌==◌, inl, inr, ℕ, true, false, List, [], ◌∷◌, ◌++◌, length, Some, arith, refl}
use Rattle.std.specs.Prelude.{⊤}
use Rattle.std.specs.Fmt.{decimal}
use Rattle.std.specs.Str.{all_ascii_digits}
use Rattle.std.proofs.lemmas.Fmt.{decimal_by_steps_wide, decimal_is_IsNumeral_wide}
use Rattle.std.proofs.lemmas.Bool.{cases_Bool, ne_eqb, le-leb, and_from}
use Rattle.mw_lex.specs.Bytes.{is_punctuation, is_run_byte}
use Rattle.mw_lex.specs.Pieces.{run_len}
use Rattle.mw_lex.specs.Texts.{IsProper}
use Rattle.mw_lex.proofs.Comments.{no_comment}
use Rattle.mw_text.specs.Numerals.{are_digits, number_in}
use Rattle.mw_text.proofs.Numbers.{number_is}
use Rattle.mw_print.proofs.Bytes.{seven}

abbrev pub IsDigit : ℕ → Type 0
IsDigit b = (48 ≤ b) × (b ≤ 57)

abbrev pub AreDigits : List ℕ → Type 0
AreDigits [] = ⊤
AreDigits (b ∷ bs) = IsDigit b × AreDigits bs

-- one digit at least
abbrev pub AreSome : List ℕ → Type 0
AreSome [] = ⊥
AreSome (b ∷ bs) = IsDigit b × AreDigits bs

digit_plain : (b : ℕ) → IsDigit b → is_punctuation b ≡ false
digit_plain b d =
    elim (cases_Bool (is_punctuation b)) [
      | inl e ↦ absurd (seven (λ b. IsDigit b → ⊥) (λ d. omega arith) (λ d. omega arith) (λ d. omega arith) (λ d. omega arith) (λ d. omega arith) (λ d. omega arith) (λ d. omega arith) b e d)
      | inr e ↦ e
    ]

pub digit_runs : (b : ℕ) → IsDigit b → is_run_byte b ≡ true
digit_runs b d = rw (digit_plain b d) (and_from _ true (and_from _ _ (le-leb 33 b (omega arith)) (le-leb b 126 (omega arith))) refl)

digits_run : (bs : List ℕ) → AreDigits bs → run_len bs ≡ length bs
digits_run [] d = refl
digits_run (b ∷ []) d = rw (digit_runs b d.0) refl
digits_run (b ∷ c ∷ bs) d =
    let no_quote : (b == 96) ≡ false = ne_eqb b 96 (λ e. absurd (omega (arith, d.0))) in
    rw (no_quote, digit_runs b d.0, digits_run (c ∷ bs) d.1) (omega arith)

more_digits : (bs : List ℕ) (c : ℕ) → AreSome bs → IsDigit c → AreSome (bs ++ c ∷ [])
more_digits [] c d e = absurd d
more_digits (b ∷ bs) c d e = (d.0, appended bs d.1) where
  appended : (bs : List ℕ) → AreDigits bs → AreDigits (bs ++ c ∷ [])
  appended [] d = (e, tt)
  appended (b ∷ bs) d = (d.0, appended bs d.1)

digits_proper : (bs : List ℕ) → AreSome bs → IsProper bs
digits_proper [] d = absurd d
digits_proper (b ∷ bs) d =
    inr (digits_run (b ∷ bs) d, (λ e. absurd (omega (arith, d.0))), no_comment b (ne_eqb b 42 (λ e. absurd (omega (arith, d.0)))) (ne_eqb b 45 (λ e. absurd (omega (arith, d.0)))) bs)

pub decimal_digits : (n : ℕ) → n < 2 ^ 128 → AreSome (decimal n)
decimal_digits n h =
    decimal_by_steps_wide (λ n ds. AreSome ds) (λ n h. ((omega arith, omega arith), tt)) (λ n ds h d. more_digits ds (48 + n % 10) d (omega arith, omega arith)) n (omega (arith, h))

pub decimal_proper : (n : ℕ) → n < 2 ^ 128 → IsProper (decimal n)
decimal_proper n h = digits_proper (decimal n) (decimal_digits n h)

-- and its text is the number
digits_all : (bs : List ℕ) → AreDigits bs → all_ascii_digits bs ≡ true
digits_all [] d = refl
digits_all (b ∷ bs) d = and_from _ _ (and_from _ _ (le-leb 48 b d.0.0) (le-leb b 57 d.0.1)) (digits_all bs d.1)

digits_are : (bs : List ℕ) → AreSome bs → are_digits bs ≡ true
digits_are [] d = absurd d
digits_are (b ∷ bs) d = digits_all (b ∷ bs) d

pub decimal_number : (n : ℕ) → n < 2 ^ 128 → number_in (decimal n) ≡ Some n
decimal_number n h = number_is (decimal n) n (digits_are (decimal n) (decimal_digits n h)) (decimal_is_IsNumeral_wide n (omega (arith, h))).1 h
