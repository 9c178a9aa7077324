-- Numbers as tokens and in front of names: how they begin and end.
use Rattle.std.proofs.Common.{◌≡◌, ◌∙◌, ◌<◌, ◌^◌, ℕ, Bool, false, List, [], ◌∷◌, ◌++◌, if◌then◌else◌, refl, sym, ap, append_assoc, arith}
use Rattle.std.proofs.lemmas.Bool.{ne_eqb}
use Rattle.std.specs.Fmt.{decimal}
use Rattle.mw_print.specs.Tokens.{Token, token, opens, closes, ends_in_backquote}
use Rattle.mw_print.specs.declared.writer.End.TheVariants.{Apart, Plain}
use Rattle.mw_print.specs.declared.writer.Writer.{Writer}
use Rattle.mw_print.specs.Writing.{end_of, space, written}
use Rattle.mw_print.proofs.Behind.{wrote}
use Rattle.mw_print.proofs.Digits.{IsDigit, AreDigits, AreSome, decimal_digits}

-- a digit neither opens nor closes
digit_opens : (b : ℕ) → IsDigit b → opens (b ∷ []) ≡ false
digit_opens b d = rw (ne_eqb b 40 (λ e. absurd (omega (arith, d.0))), ne_eqb b 91 (λ e. absurd (omega (arith, d.1))), ne_eqb b 123 (λ e. absurd (omega (arith, d.1)))) refl

digit_closes : (b : ℕ) → IsDigit b → closes (b ∷ []) ≡ false
digit_closes b d =
    rw (ne_eqb b 44 (λ e. absurd (omega (arith, d.0))), ne_eqb b 41 (λ e. absurd (omega (arith, d.0))), ne_eqb b 93 (λ e. absurd (omega (arith, d.1))), ne_eqb b 125 (λ e. absurd (omega (arith, d.1)))) refl

digits_end : (bs : List ℕ) → AreDigits bs → ends_in_backquote bs ≡ false
digits_end [] d = refl
digits_end (b ∷ []) d = ne_eqb b 96 (λ e. absurd (omega (arith, d.0.1)))
digits_end (b ∷ c ∷ bs) d = digits_end (c ∷ bs) d.1

-- what a number ends in behind bytes, and how it opens and closes
pub record IsInside (x : List ℕ) (quote : Bool) : Type 0 where
  pub opens_not : opens x ≡ false
  pub closes_not : closes x ≡ false
  pub ends : ends_in_backquote x ≡ quote

digits_inside : (bs : List ℕ) → AreSome bs → IsInside bs false
digits_inside [] d = absurd d
digits_inside (b ∷ []) d = record { opens_not = digit_opens b d.0; closes_not = digit_closes b d.0; ends = digits_end (b ∷ []) d }
digits_inside (b ∷ c ∷ bs) d = record { opens_not = refl; closes_not = refl; ends = digits_end (b ∷ c ∷ bs) d }

name_end : (s : List ℕ) → ends_in_backquote (64 ∷ s) ≡ ends_in_backquote s
name_end [] = refl
name_end (c ∷ s) = refl

named_end : (bs s : List ℕ) → ends_in_backquote (bs ++ 64 ∷ s) ≡ ends_in_backquote s
named_end [] s = name_end s
named_end (b ∷ []) s = name_end s
named_end (b ∷ c ∷ bs) s = named_end (c ∷ bs) s

named_inside : (bs s : List ℕ) → AreSome bs → IsInside (bs ++ 64 ∷ s) (ends_in_backquote s)
named_inside [] s d = absurd d
named_inside (b ∷ []) s d = record { opens_not = refl; closes_not = refl; ends = name_end s }
named_inside (b ∷ c ∷ bs) s d = record { opens_not = refl; closes_not = refl; ends = named_end (c ∷ bs) s }

pub decimal_inside : (n : ℕ) → n < 2 ^ 128 → IsInside (decimal n) false
decimal_inside n h = digits_inside (decimal n) (decimal_digits n h)

pub numbered_inside : (n : ℕ) (s : List ℕ) → n < 2 ^ 128 → IsInside ((decimal n ++ 64 ∷ []) ++ s) (ends_in_backquote s)
numbered_inside n s h = rw (append_assoc (decimal n) (64 ∷ []) s) (named_inside (decimal n) s (decimal_digits n h))

-- how a text ends behind it
inside_end : (x : List ℕ) (quote : Bool) → IsInside x quote → end_of (token x) ≡ (if quote then Apart else Plain)
inside_end x quote i = rw (i.ends, i.opens_not) refl

-- it is written behind a space
pub wrote_inside : (w v : Writer) (x : List ℕ) (quote : Bool) → IsInside x quote → v.text.items ≡ (w.text.items ++ space w.end false) ++ x → v.end ≡ (if quote then Apart else Plain)
    → (ts : List Token) → written v ts ≡ written w (token x ∷ ts)
wrote_inside w v x quote i e f = wrote w v (token x) (e ∙ ap (λ near. (w.text.items ++ space w.end near) ++ x) (sym i.closes_not)) (f ∙ sym (inside_end x quote i))
