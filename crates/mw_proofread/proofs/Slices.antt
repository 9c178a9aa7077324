-- Slices of tokens by their first, and by what stands in front.
use Rattle.std.proofs.Common.{◌≡◌, ◌∙◌, ◌+◌, ◌-◌, ◌≤◌, ◌<◌, ℕ, zero, suc, List, [], ◌∷◌, ◌++◌, length, take, drop, get_or, true, sym, ap, subst, refl, arith}
use Rattle.std.proofs.lemmas.List.{take_all}
use Rattle.mw_lex.specs.declared.token.Token.{Token}
use Rattle.mw_proofread.specs.TokenTexts.{token_texts}
use Rattle.mw_proofread.specs.Parts.{is_low, AreLow}

pub parted : {X : Type 0} (xs : List X) (x : X) → 1 ≤ length xs → x ≡ get_or xs 0 x → xs ≡ x ∷ take (length xs - 1) (drop 1 xs)
parted [] x some at = absurd (omega (arith, some))
parted (y ∷ xs) x some at = ap (λ z. z ∷ xs) (sym at) ∙ ap (λ zs. x ∷ zs) (sym (take_all (length (y ∷ xs) - 1) xs (omega arith)))

pub first_text : (ts : List Token) (t : Token) → 1 ≤ length ts → t ≡ get_or ts 0 t → token_texts ts ≡ t.text ∷ token_texts (take (length ts - 1) (drop 1 ts))
first_text ts t some at = ap token_texts (parted ts t some at)

pub none_text : (ts : List Token) → length ts < 1 → token_texts ts ≡ []
none_text [] h = refl
none_text (t ∷ ts) h = absurd (omega (arith, h))

-- tokens in front of others
pub front_text : (ts : List Token) (n : ℕ) (xs ys : List (List ℕ)) → token_texts ts ≡ xs ++ ys → length xs ≡ n → token_texts (take n ts) ≡ xs
front_text [] zero [] ys e l = refl
front_text [] (suc n) [] ys e l = absurd (omega (arith, l))
front_text [] n (x ∷ xs) ys e l = cc
front_text (t ∷ ts) zero [] ys e l = refl
front_text (t ∷ ts) (suc n) [] ys e l = absurd (omega (arith, l))
front_text (t ∷ ts) zero (x ∷ xs) ys e l = absurd (omega (arith, l))
front_text (t ∷ ts) (suc n) (x ∷ xs) ys e l = let i : t.text ≡ x = cc in let j : token_texts ts ≡ xs ++ ys = cc in let k = front_text ts n xs ys j (omega (arith, l)) in cc

pub texts_length : (ts : List Token) → length (token_texts ts) ≡ length ts
texts_length [] = refl
texts_length (t ∷ ts) = ap suc (texts_length ts)

-- texts in two parts, and one token more
pub parts_text : (ts : List Token) (n : ℕ) → n ≤ length ts → token_texts ts ≡ token_texts (take n ts) ++ token_texts (take (length ts - n) (drop n ts))
parts_text [] zero h = refl
parts_text [] (suc n) h = absurd (omega (arith, h))
parts_text (t ∷ ts) zero h = ap token_texts (sym (take_all (length (t ∷ ts) - 0) (t ∷ ts) (omega arith)))
parts_text (t ∷ ts) (suc n) h =
    let same : length (t ∷ ts) - suc n ≡ length ts - n = omega arith in
    ap (λ z. t.text ∷ z) (parts_text ts n (omega (arith, h))) ∙ ap (λ k. t.text ∷ (token_texts (take n ts) ++ token_texts (take k (drop n ts)))) (sym same)

pub low_more : (ts : List Token) (n : ℕ) (t : Token) → n < length ts → t ≡ get_or ts n t → AreLow (token_texts (take n ts)) → is_low t.text ≡ true → AreLow (token_texts (take (n + 1) ts))
low_more ts n t h at low one = subst (λ k. AreLow (token_texts (take k ts))) (by_suc n) (more ts n t h at low one)
  where
    by_suc : (n : ℕ) → suc n ≡ n + 1
    by_suc n = omega arith

    more : (ts : List Token) (n : ℕ) (t : Token) → n < length ts → t ≡ get_or ts n t → AreLow (token_texts (take n ts)) → is_low t.text ≡ true → AreLow (token_texts (take (suc n) ts))
    more [] n t h at low one = absurd (omega (arith, h))
    more (u ∷ ts) zero t h at low one = (ap (λ (v : Token). is_low v.text) (sym at) ∙ one, tt)
    more (u ∷ ts) (suc n) t h at low one = (low.0, more ts n t (omega (arith, h)) at low.1 one)
