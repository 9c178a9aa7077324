-- A prefix form tells its term.
use Rattle.std.proofs.Common.{◌≡◌, ◌≢◌, ◌∙◌, ◌<◌, ◌^◌, ℕ, List, [], ◌∷◌, ◌++◌, map, Ok, refl, ap, sym, append_assoc, append-nil, arith}
use Rattle.std.specs.Prelude.{codes, ⊤}
use Rattle.std.specs.Fmt.{decimal}
use Rattle.std.specs.Str.Parse.{digits_value}
use Rattle.std.proofs.lemmas.Fmt.{decimal_is_IsNumeral_wide}
use Rattle.mw_lex.specs.declared.token.Token.{Token}
use Rattle.mw_lex.specs.Lexing.{Lexed, tokens_of}
use Rattle.mw_logic.specs.Term.{RawTerm, numeral, quoted, variable, apply, RawTerms, nil, cons}
use Rattle.mw_logic.specs.Signature.{Signature}
use Rattle.mw_text.specs.Mixfix.{IsIdentifier}
use Rattle.mw_print.specs.Prefix.{spelling_at, numbered}
use Rattle.mw_print.specs.PrefixLaws.{IsTold, AreTold, PrefixTells, PrefixTextTells}
use Rattle.mw_print.proofs.Digits.{AreDigits, AreSome, decimal_digits}
use Rattle.mw_print.proofs.PrefixWords.{numbered_is, words, opened, after, words_are}
use Rattle.mw_print.proofs.PrefixLexed.{prefix_lexed}

some_digits : (bs : List ℕ) → AreSome bs → AreDigits bs
some_digits [] d = absurd d
some_digits (b ∷ bs) d = d

decimal_told : (m n : ℕ) → m < 2 ^ 128 → n < 2 ^ 128 → decimal m ≡ decimal n → m ≡ n
decimal_told m n h k e = sym (decimal_is_IsNumeral_wide m (omega arith)).1 ∙ ap (digits_value 10) e ∙ (decimal_is_IsNumeral_wide n (omega arith)).1

-- digits before the first `@` are told by the whole
before_at : (ds es s r : List ℕ) → AreDigits ds → AreDigits es → ds ++ 64 ∷ s ≡ es ++ 64 ∷ r → ds ≡ es
before_at [] [] s r d e same = refl
before_at [] (b ∷ es) s r d e same = let at : 64 ≡ b = cc in absurd (omega (arith, e.0.1, at))
before_at (a ∷ ds) [] s r d e same = let at : a ≡ 64 = cc in absurd (omega (arith, d.0.1, at))
before_at (a ∷ ds) (b ∷ es) s r d e same = let first : a ≡ b = cc in let rest : ds ++ 64 ∷ s ≡ es ++ 64 ∷ r = cc in let behind = before_at ds es s r d.1 e.1 rest in cc

-- digits alone have no `@`
no_at : (ds es s : List ℕ) → AreDigits ds → ds ≡ es ++ 64 ∷ s → ⊥
no_at [] [] s d same = cc
no_at [] (b ∷ es) s d same = cc
no_at (a ∷ ds) [] s d same = let at : a ≡ 64 = cc in absurd (omega (arith, d.0.1, at))
no_at (a ∷ ds) (b ∷ es) s d same = let rest : ds ≡ es ++ 64 ∷ s = cc in no_at ds es s d.1 rest

-- a quoted identifier doesn't begin with a digit
no_quoted : (ds q rest : List ℕ) → AreSome ds → IsIdentifier q → ds ++ rest ≡ q → ⊥
no_quoted [] q rest d i same = absurd d
no_quoted (a ∷ ds) [] rest d i same = absurd i
no_quoted (a ∷ ds) (b ∷ []) rest d i same = absurd i
no_quoted (a ∷ ds) (b ∷ c ∷ q) rest d i same = let first : a ≡ b = cc in absurd (omega (arith, d.0.0, first, i))

-- the first of the tokens isn't the parenthesis that opens
abbrev IsShut : List (List ℕ) → Type 0
IsShut [] = ⊤
IsShut (x ∷ xs) = x ≢ codes "("

-- two operators in front
operator_told : (sig : Signature) (f g : ℕ) → f < 2 ^ 128 → g < 2 ^ 128 → numbered sig f ≡ numbered sig g → f ≡ g
operator_told sig f g h k e =
    let same : decimal f ++ 64 ∷ spelling_at sig f ≡ decimal g ++ 64 ∷ spelling_at sig g = sym (numbered_is sig f) ∙ e ∙ numbered_is sig g in
    decimal_told f g h k (before_at (decimal f) (decimal g) (spelling_at sig f) (spelling_at sig g) (some_digits (decimal f) (decimal_digits f h)) (some_digits (decimal g) (decimal_digits g k)) same)

numeral_apart : (sig : Signature) (n f : ℕ) → n < 2 ^ 128 → decimal n ≡ numbered sig f → ⊥
numeral_apart sig n f h e = no_at (decimal n) (decimal f) (spelling_at sig f) (some_digits (decimal n) (decimal_digits n h)) (e ∙ numbered_is sig f)

quoted_apart : (n : ℕ) (q : List ℕ) → n < 2 ^ 128 → IsIdentifier q → decimal n ≡ q → ⊥
quoted_apart n q h i e = no_quoted (decimal n) q [] (decimal_digits n h) i (append-nil (decimal n) ∙ e)

name_apart : (sig : Signature) (f : ℕ) (q : List ℕ) → f < 2 ^ 128 → IsIdentifier q → numbered sig f ≡ q → ⊥
name_apart sig f q h i e = no_quoted (decimal f) q (64 ∷ spelling_at sig f) (decimal_digits f h) i (sym (numbered_is sig f) ∙ e)

-- the first token, and those behind it
first_is : {x y : List ℕ} {xs ys : List (List ℕ)} → x ∷ xs ≡ y ∷ ys → x ≡ y
first_is e = cc

rest_is : {x y : List ℕ} {xs ys : List (List ℕ)} → x ∷ xs ≡ y ∷ ys → xs ≡ ys
rest_is e = cc

-- the parentheses and the comma are told by their bytes
abbrev byte_of : List ℕ → ℕ
byte_of [] = 0
byte_of (b ∷ x) = b

close_opens : codes ")" ≡ codes "(" → ⊥
close_opens e = let h : 41 ≡ 40 = ap byte_of e in absurd (omega (arith, h))

comma_opens : codes "," ≡ codes "(" → ⊥
comma_opens e = let h : 44 ≡ 40 = ap byte_of e in absurd (omega (arith, h))

close_divides : codes ")" ≡ codes "," → ⊥
close_divides e = let h : 41 ≡ 44 = ap byte_of e in absurd (omega (arith, h))

module _ (sig : Signature) where
  after_shut : (ts : RawTerms) (r : List (List ℕ)) → IsShut (after sig ts ++ r)
  after_shut nil r = close_opens
  after_shut (cons t ts) r = comma_opens

  -- a form before others, by what each of the two tells
  both_told : (t u : RawTerm) (ts us : RawTerms) (r s : List (List ℕ)) → (words sig t ++ (after sig ts ++ r) ≡ words sig u ++ (after sig us ++ s) → (t ≡ u) × (after sig ts ++ r ≡ after sig us ++ s))
      → (after sig ts ++ r ≡ after sig us ++ s → (ts ≡ us) × (r ≡ s)) → (words sig t ++ after sig ts) ++ r ≡ (words sig u ++ after sig us) ++ s → (cons t ts ≡ cons u us) × (r ≡ s)
  both_told t u ts us r s first rest e =
      let one = first (sym (append_assoc (words sig t) (after sig ts) r) ∙ e ∙ append_assoc (words sig u) (after sig us) s) in
      let others = rest one.1 in
      ((λ i. cons (one.0 i) (others.0 i)), others.1)

  -- Forms with tokens behind them.
  mutual
    term_told : (t u : RawTerm) (r s : List (List ℕ)) → IsTold t → IsTold u → IsShut r → IsShut s → words sig t ++ r ≡ words sig u ++ s → (t ≡ u) × (r ≡ s)
    term_told (numeral m) (numeral n) r s h k c d e = (ap numeral (decimal_told m n h k (first_is e)), rest_is e)
    term_told (numeral m) (quoted q) r s h k c d e = absurd (quoted_apart m q h k.0 (first_is e))
    term_told (numeral m) (variable x) r s h k c d e = absurd k
    term_told (numeral m) (apply g us) r s h k c d e = absurd (numeral_apart sig m g h (first_is e))
    term_told (quoted p) (numeral n) r s h k c d e = absurd (quoted_apart n p k h.0 (sym (first_is e)))
    term_told (quoted p) (quoted q) r s h k c d e = (ap quoted (first_is e), rest_is e)
    term_told (quoted p) (variable x) r s h k c d e = absurd k
    term_told (quoted p) (apply g us) r s h k c d e = absurd (name_apart sig g p k.0 h.0 (sym (first_is e)))
    term_told (variable x) u r s h k c d e = absurd h
    term_told (apply f ts) (numeral n) r s h k c d e = absurd (numeral_apart sig n f k (sym (first_is e)))
    term_told (apply f ts) (quoted q) r s h k c d e = absurd (name_apart sig f q h.0 k.0 (first_is e))
    term_told (apply f ts) (variable x) r s h k c d e = absurd k
    term_told (apply f ts) (apply g us) r s h k c d e =
        let same : f ≡ g = operator_told sig f g h.0 k.0 (first_is e) in
        let args = opened_told ts us r s h.1 k.1 c d (rest_is e) in
        ((λ i. apply (same i) (args.0 i)), args.1)

    opened_told : (ts us : RawTerms) (r s : List (List ℕ)) → AreTold ts → AreTold us → IsShut r → IsShut s → opened sig ts ++ r ≡ opened sig us ++ s → (ts ≡ us) × (r ≡ s)
    opened_told nil nil r s h k c d e = (refl, e)
    opened_told nil (cons u us) [] s h k c d e = cc
    opened_told nil (cons u us) (x ∷ r) s h k c d e = absurd (c (first_is e))
    opened_told (cons t ts) nil r [] h k c d e = cc
    opened_told (cons t ts) nil r (x ∷ s) h k c d e = absurd (d (sym (first_is e)))
    opened_told (cons t ts) (cons u us) r s h k c d e = both_told t u ts us r s (term_told t u (after sig ts ++ r) (after sig us ++ s) h.0 k.0 (after_shut ts r) (after_shut us s)) (after_told ts us r s h.1 k.1 c d) (rest_is e)

    after_told : (ts us : RawTerms) (r s : List (List ℕ)) → AreTold ts → AreTold us → IsShut r → IsShut s → after sig ts ++ r ≡ after sig us ++ s → (ts ≡ us) × (r ≡ s)
    after_told nil nil r s h k c d e = (refl, rest_is e)
    after_told nil (cons u us) r s h k c d e = absurd (close_divides (first_is e))
    after_told (cons t ts) nil r s h k c d e = absurd (close_divides (sym (first_is e)))
    after_told (cons t ts) (cons u us) r s h k c d e = both_told t u ts us r s (term_told t u (after sig ts ++ r) (after sig us ++ s) h.0 k.0 (after_shut ts r) (after_shut us s)) (after_told ts us r s h.1 k.1 c d) (rest_is e)

pub prefix_told : PrefixTells
prefix_told sig t u h k e =
    let same : words sig t ++ [] ≡ words sig u ++ [] = append-nil (words sig t) ∙ sym (words_are sig t) ∙ e ∙ words_are sig u ∙ sym (append-nil (words sig u)) in
    (term_told sig t u [] [] h k tt tt same).0

pub prefix_text_told : PrefixTextTells
prefix_text_told sig t u whole h k e =
    let (found, cut, is) = prefix_lexed sig t whole h in
    let (others, cut', is') = prefix_lexed sig u whole k in
    let one : ◌≡◌ {A = Lexed} (Ok found) (Ok others) = sym cut ∙ ap tokens_of e ∙ cut' in
    let same : found ≡ others = cc in
    prefix_told sig t u h k (sym is ∙ ap (map (λ (t : Token). t.text)) same ∙ is')
