-- Tokens of forms and numbers are low, words are high; so a list of tokens is divided in one way.
use Rattle.std.proofs.Common.{◌≡◌, ◌≢◌, ◌∙◌, ℕ, List, [], ◌∷◌, ◌++◌, Bool, true, false, ◌||◌, refl, ap, sym, subst, arith, append-nil, inl, inr}
use Rattle.std.specs.Prelude.{codes}
use Rattle.std.specs.Str.{bytes_eq}
use Rattle.std.specs.Fmt.{decimal}
use Rattle.std.proofs.lemmas.Bool.{lt-ltb, or_cases}
use Rattle.std.proofs.lemmas.Slice.Eq.{bytes_eq-Decides}
use Rattle.mw_logic.specs.Term.{RawTerm, numeral, quoted, variable, apply, RawTerms, nil, cons}
use Rattle.mw_logic.specs.Signature.{Signature}
use Rattle.mw_text.specs.Mixfix.{IsIdentifier}
use Rattle.mw_print.specs.PrefixLaws.{IsTold, AreTold}
use Rattle.mw_print.specs.Prefix.{spelling_at}
use Rattle.mw_print.proofs.Digits.{AreSome, decimal_digits}
use Rattle.mw_print.proofs.PrefixWords.{numbered_is, words, opened, after, words_are}
use Rattle.mw_proofread.specs.Numbers.{number_text}
use Rattle.mw_proofread.specs.TokenTexts.{numbers_tokens, form_tokens}
use Rattle.mw_proofread.specs.Outside.{is_next, IsFollowed}
use Rattle.mw_proofread.specs.Parts.{is_low, AreLow, IsHigh, NoNumber, NotFirst, ends_line, EndsLine, EndsSpot}
use Rattle.mw_proofread.proofs.Digits.{number_low, number_one}

both : (b : Bool) → b ≡ false → b ≡ true → ⊥
both b h k = let e : false ≡ true = sym h ∙ k in cc

pub low_append : (xs ys : List (List ℕ)) → AreLow xs → AreLow ys → AreLow (xs ++ ys)
low_append [] ys h k = k
low_append (x ∷ xs) ys h k = (h.0, low_append xs ys h.1 k)

some_low : (bs rest : List ℕ) → AreSome bs → is_low (bs ++ rest) ≡ true
some_low [] rest h = absurd h
some_low (b ∷ bs) rest h = lt-ltb b 58 (let k = h.0 in omega (arith, k))

identifier_low : (q : List ℕ) → IsIdentifier q → is_low q ≡ true
identifier_low [] h = absurd h
identifier_low (b ∷ []) h = absurd h
identifier_low (b ∷ c ∷ q) h = lt-ltb b 58 (omega (arith, h))

module _ (sig : Signature) where
  mutual
    words_low : (t : RawTerm) → IsTold t → AreLow (words sig t)
    words_low (numeral n) h = (ap is_low (sym (append-nil (decimal n))) ∙ some_low (decimal n) [] (decimal_digits n h), tt)
    words_low (quoted q) h = (identifier_low q h.0, tt)
    words_low (variable x) h = tt
    words_low (apply f ts) h = (ap is_low (numbered_is sig f) ∙ some_low (decimal f) (64 ∷ spelling_at sig f) (decimal_digits f h.0), opened_low ts h.1)

    opened_low : (ts : RawTerms) → AreTold ts → AreLow (opened sig ts)
    opened_low nil h = tt
    opened_low (cons t ts) h = (refl, low_append (words sig t) (after sig ts) (words_low t h.0) (after_low ts h.1))

    after_low : (ts : RawTerms) → AreTold ts → AreLow (after sig ts)
    after_low nil h = (refl, tt)
    after_low (cons t ts) h = (refl, low_append (words sig t) (after sig ts) (words_low t h.0) (after_low ts h.1))

  pub form_low : (t : RawTerm) → IsTold t → AreLow (form_tokens sig t)
  form_low t h = subst AreLow (sym (words_are sig t)) (words_low t h)

-- Of two divisions into low tokens and others, both parts are the same.
pub low_one : (xs ys r s : List (List ℕ)) → AreLow xs → AreLow ys → IsHigh r → IsHigh s → xs ++ r ≡ ys ++ s → (xs ≡ ys) × (r ≡ s)
low_one [] [] r s a b h k e = (refl, e)
low_one [] (y ∷ ys) [] s a b h k e = cc
low_one [] (y ∷ ys) (w ∷ r) s a b h k e = let i : w ≡ y = cc in absurd (both (is_low w) h (ap is_low i ∙ b.0))
low_one (x ∷ xs) [] r [] a b h k e = cc
low_one (x ∷ xs) [] r (w ∷ s) a b h k e = let i : w ≡ x = cc in absurd (both (is_low w) k (ap is_low i ∙ a.0))
low_one (x ∷ xs) (y ∷ ys) r s a b h k e = let i : x ≡ y = cc in let j : xs ++ r ≡ ys ++ s = cc in let (m, n) = low_one xs ys r s a.1 b.1 h k j in (cc, n)

-- numbers in front of what isn't one
pub numbers_one : (ms ns : List ℕ) (r s : List (List ℕ)) → NoNumber r → NoNumber s → numbers_tokens ms ++ r ≡ numbers_tokens ns ++ s → (ms ≡ ns) × (r ≡ s)
numbers_one [] [] r s h k e = (refl, e)
numbers_one [] (n ∷ ns) [] s h k e = cc
numbers_one [] (n ∷ ns) (w ∷ r) s h k e = let i : w ≡ number_text n = cc in absurd (h n i)
numbers_one (m ∷ ms) [] r [] h k e = cc
numbers_one (m ∷ ms) [] r (w ∷ s) h k e = let i : w ≡ number_text m = cc in absurd (k m i)
numbers_one (m ∷ ms) (n ∷ ns) r s h k e =
    let i : number_text m ≡ number_text n = cc in
    let j : numbers_tokens ms ++ r ≡ numbers_tokens ns ++ s = cc in
    let l : m ≡ n = number_one m n i in
    let (p, q) = numbers_one ms ns r s h k j in
    (cc, q)

pub high_no_number : (ws : List (List ℕ)) → IsHigh ws → NoNumber ws
high_no_number [] h = tt
high_no_number (w ∷ ws) h = λ n e. both (is_low w) h (ap is_low e ∙ number_low n)

-- words behind a line
is_word : (x w : List ℕ) → bytes_eq x w ≡ true → x ≡ w
is_word x w h = (bytes_eq-Decides x w).0 h

next_cases : (P : List ℕ → Type 0) → P (codes "step") → P (codes "owise") → P (codes "par") → P (codes "to") → (w : List ℕ) → is_next w ≡ true → P w
next_cases P a b c d w h =
    elim (or_cases (bytes_eq w (codes "step") || bytes_eq w (codes "owise") || bytes_eq w (codes "par")) (bytes_eq w (codes "to")) h) [
      | inl k ↦ elim (or_cases (bytes_eq w (codes "step") || bytes_eq w (codes "owise")) (bytes_eq w (codes "par")) k) [
        | inl l ↦ elim (or_cases (bytes_eq w (codes "step")) (bytes_eq w (codes "owise")) l) [
          | inl m ↦ subst P (sym (is_word w (codes "step") m)) a
          | inr m ↦ subst P (sym (is_word w (codes "owise") m)) b
        ]
        | inr l ↦ subst P (sym (is_word w (codes "par") l)) c
      ]
      | inr k ↦ subst P (sym (is_word w (codes "to") k)) d
    ]

ends_cases : (P : List ℕ → Type 0) → P (codes "step") → P (codes "owise") → P (codes "par") → P (codes "to") → P (codes "where") → P (codes "}") → (w : List ℕ) → ends_line w ≡ true → P w
ends_cases P a b c d e f w h =
    elim (or_cases (is_next w || bytes_eq w (codes "where")) (bytes_eq w (codes "}")) h) [
      | inl k ↦ elim (or_cases (is_next w) (bytes_eq w (codes "where")) k) [
        | inl l ↦ next_cases P a b c d w l
        | inr l ↦ subst P (sym (is_word w (codes "where") l)) e
      ]
      | inr k ↦ subst P (sym (is_word w (codes "}") k)) f
    ]

-- a word that ends lines isn't this one
pub ends_not : (v w : List ℕ) → ends_line v ≡ false → ends_line w ≡ true → w ≢ v
ends_not v w h k e = both (ends_line v) h (ap ends_line (sym e) ∙ k)

pub next_not : (v w : List ℕ) → is_next v ≡ false → is_next w ≡ true → w ≢ v
next_not v w h k e = both (is_next v) h (ap is_next (sym e) ∙ k)

pub ends_high : (ws : List (List ℕ)) → EndsLine ws → IsHigh ws
ends_high [] h = tt
ends_high (w ∷ ws) h = ends_cases (λ v. is_low v ≡ false) refl refl refl refl refl refl w h

pub ends_other : (v : List ℕ) → ends_line v ≡ false → (ws : List (List ℕ)) → EndsLine ws → NotFirst v ws
ends_other v h [] k = tt
ends_other v h (w ∷ ws) k = ends_not v w h k

pub next_other : (v : List ℕ) → is_next v ≡ false → (ws : List (List ℕ)) → IsFollowed ws → NotFirst v ws
next_other v h [] k = tt
next_other v h (w ∷ ws) k = next_not v w h k

pub next_ends : (ws : List (List ℕ)) → IsFollowed ws → EndsLine ws
next_ends [] h = h
next_ends (w ∷ ws) h = next_cases (λ v. ends_line v ≡ true) refl refl refl refl w h

pub ends_spot : (ws : List (List ℕ)) → EndsLine ws → EndsSpot ws
ends_spot ws h = (high_no_number ws (ends_high ws h), ends_other (codes "take") refl ws h)
