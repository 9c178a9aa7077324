-- How many parentheses of a prefix form are open at once.
use Rattle.std.proofs.Common.{◌≡◌, ◌∙◌, ◌<◌, ◌≤◌, ◌^◌, ◌+◌, ◌-◌, ℕ, suc, max, List, [], ◌∷◌, ◌++◌, refl, ap, sym, append_assoc, append-nil, arith}
use Rattle.std.specs.Prelude.{codes}
use Rattle.std.specs.Fmt.{decimal}
use Rattle.std.proofs.lemmas.Bool.{ne_eqb}
use Rattle.mw_logic.specs.Term.{RawTerm, numeral, quoted, variable, apply, RawTerms, nil, cons}
use Rattle.mw_logic.specs.Signature.{Signature}
use Rattle.mw_logic.specs.NormalForm.{height, highest}
use Rattle.mw_text.specs.Mixfix.{IsIdentifier}
use Rattle.mw_print.specs.Prefix.{spelling_at, numbered}
use Rattle.mw_print.specs.PrefixLaws.{IsTold, AreTold, open_behind, most_open, PrefixIsShallow}
use Rattle.mw_print.proofs.Digits.{AreSome, decimal_digits}
use Rattle.mw_print.proofs.PrefixWords.{numbered_is, words, opened, after, words_are}

-- Behind a token that begins with a digit, and behind a quoted identifier, as many are open as before it.
digits_open : (ds s : List ℕ) (n : ℕ) → AreSome ds → open_behind (ds ++ s) n ≡ n
digits_open [] s n d = absurd d
digits_open (b ∷ []) [] n d = rw (ne_eqb b 40 (λ e. absurd (omega (arith, d.0.0, e))), ne_eqb b 41 (λ e. absurd (omega (arith, d.0.0, e)))) refl
digits_open (b ∷ []) (c ∷ s) n d = refl
digits_open (b ∷ c ∷ ds) s n d = refl

decimal_open : (m n : ℕ) → m < 2 ^ 128 → open_behind (decimal m) n ≡ n
decimal_open m n h = ap (λ x. open_behind x n) (sym (append-nil (decimal m))) ∙ digits_open (decimal m) [] n (decimal_digits m h)

operator_open : (sig : Signature) (f n : ℕ) → f < 2 ^ 128 → open_behind (numbered sig f) n ≡ n
operator_open sig f n h = ap (λ x. open_behind x n) (numbered_is sig f) ∙ digits_open (decimal f) (64 ∷ spelling_at sig f) n (decimal_digits f h)

quoted_open : (q : List ℕ) (n : ℕ) → IsIdentifier q → open_behind q n ≡ n
quoted_open [] n i = absurd i
quoted_open (b ∷ []) n i = absurd i
quoted_open (b ∷ c ∷ q) n i = refl

-- so many are open already
open_already : (n : ℕ) (xs : List (List ℕ)) → n ≤ most_open n xs
open_already n [] = omega arith
open_already n (x ∷ xs) = omega arith

-- a token behind which as many are open
same_open : (n : ℕ) (x : List ℕ) (xs : List (List ℕ)) → open_behind x n ≡ n → most_open n (x ∷ xs) ≡ most_open n xs
same_open n x xs e = let a = open_already n xs in rw e (omega arith)

height_some : (t : RawTerm) → 1 ≤ height t
height_some (numeral n) = omega arith
height_some (quoted q) = omega arith
height_some (variable x) = omega arith
height_some (apply f ts) = omega arith

module _ (sig : Signature) where
  mutual
    form_open : (t : RawTerm) → IsTold t → (n : ℕ) (r : List (List ℕ)) → most_open n (words sig t ++ r) ≡ max ((n + height t) - 1) (most_open n r)
    form_open (numeral m) h n r = let e = same_open n (decimal m) r (decimal_open m n h) in let a = open_already n r in omega (arith, e, a)
    form_open (quoted q) h n r = let e = same_open n q r (quoted_open q n h.0) in let a = open_already n r in omega (arith, e, a)
    form_open (variable x) h n r = absurd h
    form_open (apply f ts) h n r = let e = same_open n (numbered sig f) (opened sig ts ++ r) (operator_open sig f n h.0) in let k = opened_open ts h.1 n r in omega (arith, e, k)

    opened_open : (ts : RawTerms) → AreTold ts → (n : ℕ) (r : List (List ℕ)) → most_open n (opened sig ts ++ r) ≡ max (n + highest ts) (most_open n r)
    opened_open nil h n r = let a = open_already n r in omega (arith, a)
    opened_open (cons t ts) h n r =
        let e = ap (most_open (suc n)) (append_assoc (words sig t) (after sig ts) r) in
        let first = form_open t h.0 (suc n) (after sig ts ++ r) in
        let rest = after_open ts h.1 n r in
        let some = height_some t in
        omega (arith, e, first, rest, some)

    after_open : (ts : RawTerms) → AreTold ts → (n : ℕ) (r : List (List ℕ)) → most_open (suc n) (after sig ts ++ r) ≡ max (suc n) (max (n + highest ts) (most_open n r))
    after_open nil h n r =
        let b : open_behind (codes ")") (suc n) ≡ n = omega arith in
        let e = ap (λ k. most_open k r) b in
        let a = open_already n r in
        omega (arith, e, a)
    after_open (cons t ts) h n r =
        let e = ap (most_open (suc n)) (append_assoc (words sig t) (after sig ts) r) in
        let first = form_open t h.0 (suc n) (after sig ts ++ r) in
        let rest = after_open ts h.1 n r in
        let some = height_some t in
        omega (arith, e, first, rest, some)

pub prefix_shallow : PrefixIsShallow
prefix_shallow sig t h =
    let e = ap (most_open 0) (words_are sig t ∙ sym (append-nil (words sig t))) in
    let all = form_open sig t h 0 [] in
    let some = height_some t in
    omega (arith, e, all, some)
