-- Numbers in plain decimal are those that `decimal` writes.
use Rattle.std.specs.Prelude.{◌≡◌, ◌<◌, ◌≤◌, ◌+◌, ◌*◌, ◌/◌, ◌%◌, ◌^◌, ◌==◌, ◌&&◌, ℕ, zero, suc, List, [], ◌∷◌, ◌++◌, Bool, true, false, nat_lt, nat_le, Some, None, if◌then◌else◌, refl}
use Rattle.std.proofs.Common.{sym, ap, ◌∙◌, arith, append-nil, append_assoc}
use Rattle.std.proofs.lemmas.Bool.{and_parts, leb-true, ne_eqb, eqb-false, not-true}
use Rattle.std.proofs.lemmas.Str.{digit_value_digit}
use Rattle.std.proofs.lemmas.Fmt.{decimal_digit, decimal_step_wide, decimal_by_steps_wide}
use Rattle.std.specs.Fmt.{decimal}
use Rattle.std.specs.Char.{is_ascii_digit, digit_value}
use Rattle.std.specs.Str.{all_ascii_digits}
use Rattle.std.specs.Str.Parse.{digits_value, digits_value_after}
use Rattle.mw_text.specs.Numerals.{are_digits, number_in}
use Rattle.mw_text.proofs.Numbers.{number_below}
use Rattle.mw_print.proofs.Digits.{decimal_number}
use Rattle.mw_prefix.specs.Words.{is_plain, plain_number}

-- what a digit is worth
digit_range : (b : ℕ) → is_ascii_digit b ≡ true → (48 ≤ b) × (b ≤ 57)
digit_range b d = let p = and_parts (nat_le 48 b) (nat_le b 57) d in (leb-true 48 b p.0, leb-true b 57 p.1)

digit_worth : (b : ℕ) → is_ascii_digit b ≡ true → b ≡ 48 + digit_value b
digit_worth b d = let e = digit_value_digit b (digit_range b d) in omega (arith, e)

-- a number doesn't shrink by digits behind it
grows : (n : ℕ) (bs : List ℕ) → n ≤ digits_value_after 10 n bs
grows n [] = omega arith
grows n (b ∷ bs) = let more = grows (n * 10 + digit_value b) bs in omega (arith, more)

-- one digit more behind a number
one_more : (n d : ℕ) → 1 ≤ n → d < 10 → n * 10 + d < 10 ^ 64 → decimal n ++ (48 + d) ∷ [] ≡ decimal (n * 10 + d)
one_more n d some small fits =
    let front : (n * 10 + d) / 10 ≡ n = omega arith in
    let last : (n * 10 + d) % 10 ≡ d = omega arith in
    sym (decimal_step_wide (n * 10 + d) (omega arith) fits ∙ rw (front, last) refl)

-- and many
more_digits : (n : ℕ) (bs : List ℕ) → 1 ≤ n → all_ascii_digits bs ≡ true → digits_value_after 10 n bs < 2 ^ 128 → decimal n ++ bs ≡ decimal (digits_value_after 10 n bs)
more_digits n [] some d small = append-nil (decimal n)
more_digits n (b ∷ bs) some d small =
    let ds = and_parts (is_ascii_digit b) (all_ascii_digits bs) d in
    let b_is = digit_worth b ds.0 in
    let b_in = digit_range b ds.0 in
    let more = grows (n * 10 + digit_value b) bs in
    let one : decimal n ++ b ∷ [] ≡ decimal (n * 10 + digit_value b) = ap (λ c. decimal n ++ c ∷ []) b_is ∙ one_more n (digit_value b) some (omega (arith, b_is, b_in)) (omega (arith, more, small)) in
    sym (append_assoc (decimal n) (b ∷ []) bs) ∙ ap (λ xs. xs ++ bs) one ∙ more_digits (n * 10 + digit_value b) bs (omega arith) ds.1 small

-- no zero in front
abbrev Leads : List ℕ → Type 0
Leads [] = ⊥
Leads (b ∷ bs) = 49 ≤ b

decimal_leads : (n : ℕ) → n < 2 ^ 128 → 1 ≤ n → Leads (decimal n)
decimal_leads n h = decimal_by_steps_wide (λ n ds. 1 ≤ n → Leads ds) (λ n h some. omega arith) (λ n ds h k some. behind ds (48 + n % 10) (k (omega arith))) n (omega (arith, h))
  where
    behind : (ds : List ℕ) (c : ℕ) → Leads ds → Leads (ds ++ c ∷ [])
    behind [] c l = absurd l
    behind (b ∷ ds) c l = l

leads_plain : (ds : List ℕ) → Leads ds → is_plain ds ≡ true
leads_plain [] l = absurd l
leads_plain (b ∷ []) l = refl
leads_plain (b ∷ c ∷ ds) l = rw (ne_eqb b 48 (λ e. absurd (omega (arith, l, e)))) refl

decimal_plain : (n : ℕ) → n < 2 ^ 128 → is_plain (decimal n) ≡ true
decimal_plain zero h = ap is_plain (decimal_digit 0 (omega arith))
decimal_plain (suc n) h = leads_plain (decimal (suc n)) (decimal_leads (suc n) h (omega arith))

-- What is written in decimal is read as its number.
pub plain_decimal : (n : ℕ) → n < 2 ^ 128 → plain_number (decimal n) ≡ Some n
plain_decimal n h = rw (decimal_plain n h) (decimal_number n h)

-- what digits write
number_value : (text : List ℕ) (n : ℕ) → number_in text ≡ Some n → (are_digits text ≡ true) × (digits_value 10 text ≡ n)
number_value text n e = of (are_digits text) refl (nat_lt (digits_value 10 text) (2 ^ 128)) e
  where
    of : (p : Bool) → are_digits text ≡ p → (q : Bool) → (if p && q then Some (digits_value 10 text) else None) ≡ Some n → (are_digits text ≡ true) × (digits_value 10 text ≡ n)
    of true h true f = (h, cc)
    of true h false f = cc
    of false h q f = cc

plain_is : (text : List ℕ) (n : ℕ) → is_plain text ≡ true → number_in text ≡ Some n → text ≡ decimal n
plain_is [] n p e = cc
plain_is (b ∷ []) n p e =
    let v = number_value (b ∷ []) n e in
    let d = and_parts (is_ascii_digit b) true v.0 in
    let b_is = digit_worth b d.0 in
    let b_in = digit_range b d.0 in
    let value : 0 * 10 + digit_value b ≡ n = v.1 in
    ap (λ c. c ∷ []) (let same : b ≡ 48 + n = omega (arith, b_is, value) in same) ∙ sym (decimal_digit n (omega (arith, b_is, b_in, value)))
plain_is (b ∷ c ∷ bs) n p e =
    let v = number_value (b ∷ c ∷ bs) n e in
    let d = and_parts (is_ascii_digit b) (all_ascii_digits (c ∷ bs)) v.0 in
    let b_is = digit_worth b d.0 in
    let b_in = digit_range b d.0 in
    let b_not = eqb-false b 48 (not-true (b == 48) p) in
    let some : 1 ≤ digit_value b = some_worth b (digit_value b) b_is b_not in
    let first : 0 * 10 + digit_value b ≡ digit_value b = omega arith in
    let value : digits_value_after 10 (digit_value b) (c ∷ bs) ≡ n = ap (λ m. digits_value_after 10 m (c ∷ bs)) (sym first) ∙ v.1 in
    let small = number_below (b ∷ c ∷ bs) n e in
    let fits : digits_value_after 10 (digit_value b) (c ∷ bs) < 2 ^ 128 = omega (arith, value, small) in
    ap (λ a. a ∷ c ∷ bs) b_is ∙ ap (λ xs. xs ++ c ∷ bs) (sym (decimal_digit (digit_value b) (omega (arith, b_is, b_in)))) ∙ more_digits (digit_value b) (c ∷ bs) some d.1 fits ∙ ap decimal value
  where
    some_worth : (b v : ℕ) → b ≡ 48 + v → (b ≡ 48 → ⊥) → 1 ≤ v
    some_worth b zero e d = absurd (d (e ∙ omega arith))
    some_worth b (suc v) e d = omega arith

-- And only that is.
pub plain_is_decimal : (text : List ℕ) (n : ℕ) → plain_number text ≡ Some n → (text ≡ decimal n) × (n < 2 ^ 128)
plain_is_decimal text n e = of (is_plain text) refl e
  where
    of : (p : Bool) → is_plain text ≡ p → (if p then number_in text else None) ≡ Some n → (text ≡ decimal n) × (n < 2 ^ 128)
    of true h f = (plain_is text n h f, number_below text n f)
    of false h f = cc
