-- Parts of lists of arguments, by index.
use Rattle.std.proofs.Common.{◌≡◌, ◌∙◌, ℕ, zero, suc, ◌+◌, ◌-◌, ◌<◌, ◌≤◌, min, List, [], ◌∷◌, length, get_or, take, drop, ap, sym, refl, arith}
use Rattle.std.proofs.lemmas.List.{take_all}
use Rattle.mw_logic.specs.Term.{RawTerm, RawTerms, nil, cons}
use Rattle.mw_logic.specs.Terms.{terms_of, front, skip}
use Rattle.mw_logic.specs.Parts.{number_of_terms}
use Rattle.mw_search.proofs.BagLists.{number_terms}

pub skip_none : (i : ℕ) → skip i nil ≡ nil
skip_none zero = refl
skip_none (suc i) = refl

pub skip_at : (ts : List RawTerm) (i : ℕ) (t : RawTerm) → i < length ts → t ≡ get_or ts i t → skip i (terms_of ts) ≡ cons t (skip (i + 1) (terms_of ts))
skip_at [] i t h e = absurd (omega (arith, h))
skip_at (x ∷ xs) zero t h e = ap (λ y. cons y (terms_of xs)) (sym e)
skip_at (x ∷ xs) (suc i) t h e = skip_at xs i t (omega (arith, h)) e ∙ ap (λ n. cons t (skip n (terms_of (x ∷ xs)))) (next i)
  where
    next : (i : ℕ) → suc (i + 1) ≡ suc i + 1
    next i = omega arith

pub skip_past : (ts : List RawTerm) (i : ℕ) → length ts ≤ i → skip i (terms_of ts) ≡ nil
skip_past [] i h = skip_none i
skip_past (x ∷ xs) zero h = absurd (omega (arith, h))
skip_past (x ∷ xs) (suc i) h = skip_past xs i (omega (arith, h))

pub skip_skip : (m n : ℕ) (zs : RawTerms) → skip n (skip m zs) ≡ skip (m + n) zs
skip_skip zero n zs = ap (λ i. skip i zs) (omega arith)
skip_skip (suc m) n nil = skip_none n ∙ sym (skip_none (suc m + n))
skip_skip (suc m) n (cons z zs) = skip_skip m n zs ∙ ap (λ i. skip i (cons z zs)) (next m n)
  where
    next : (m n : ℕ) → suc (m + n) ≡ suc m + n
    next m n = omega arith

pub skip_min : (n : ℕ) (zs : RawTerms) → skip (min n (number_of_terms zs)) zs ≡ skip n zs
skip_min n nil = skip_none (min n 0) ∙ sym (skip_none n)
skip_min zero (cons z zs) = ap (λ i. skip i (cons z zs)) (none (suc (number_of_terms zs)))
  where
    none : (n : ℕ) → min 0 n ≡ 0
    none n = omega arith
skip_min (suc n) (cons z zs) = ap (λ i. skip i (cons z zs)) (next n (number_of_terms zs)) ∙ skip_min n zs
  where
    next : (m n : ℕ) → min (suc m) (suc n) ≡ suc (min m n)
    next m n = omega arith

front_taken : (n : ℕ) (xs : List RawTerm) → terms_of (take n xs) ≡ front n (terms_of xs)
front_taken zero xs = refl
front_taken (suc n) [] = refl
front_taken (suc n) (x ∷ xs) = ap (cons x) (front_taken n xs)

skip_dropped : (n : ℕ) (xs : List RawTerm) → terms_of (drop n xs) ≡ skip n (terms_of xs)
skip_dropped zero xs = refl
skip_dropped (suc n) [] = refl
skip_dropped (suc n) (x ∷ xs) = skip_dropped n xs

take_min : (ts : List RawTerm) (n : ℕ) → take (min n (length ts)) ts ≡ take n ts
take_min [] n = take_all (min n 0) [] (omega arith) ∙ sym (take_all n [] (omega arith))
take_min (t ∷ ts) zero = ap (λ i. take i (t ∷ ts)) (none (suc (length ts)))
  where
    none : (n : ℕ) → min 0 n ≡ 0
    none n = omega arith
take_min (t ∷ ts) (suc n) = ap (λ i. take i (t ∷ ts)) (next n (length ts)) ∙ ap (λ us. t ∷ us) (take_min ts n)
  where
    next : (m n : ℕ) → min (suc m) (suc n) ≡ suc (min m n)
    next m n = omega arith

dropped : (ts : List RawTerm) (i : ℕ) → length (drop i ts) ≡ length ts - i
dropped ts zero = omega arith
dropped [] (suc i) = omega arith
dropped (t ∷ ts) (suc i) = dropped ts i ∙ omega arith

pub rest_is : (xs : List RawTerm) (from start : ℕ) → start ≡ min from (length xs) → terms_of (take (length xs - start) (drop start xs)) ≡ skip from (terms_of xs)
rest_is xs from start es =
    ap terms_of (take_all (length xs - start) (drop start xs) (omega (arith, dropped xs start))) ∙ skip_dropped start xs
    ∙ ap (λ i. skip i (terms_of xs)) (es ∙ ap (min from) (sym (number_terms xs))) ∙ skip_min from (terms_of xs)

pub part_is : (xs rest : List RawTerm) (from count start end : ℕ) → start ≡ min from (length xs) → rest ≡ take (length xs - start) (drop start xs) → end ≡ min count (length rest)
    → terms_of (take end rest) ≡ front count (skip from (terms_of xs))
part_is xs rest from count start end es er ee =
    let r : rest ≡ drop start xs = er ∙ take_all (length xs - start) (drop start xs) (omega (arith, dropped xs start)) in
    let b : terms_of rest ≡ skip from (terms_of xs) =
    ap terms_of r ∙ skip_dropped start xs ∙ ap (λ i. skip i (terms_of xs)) (es ∙ ap (min from) (sym (number_terms xs))) ∙ skip_min from (terms_of xs) in
    ap (λ n. terms_of (take n rest)) ee ∙ ap terms_of (take_min rest count) ∙ front_taken count rest ∙ ap (front count) b

-- so many as there are at least
pub front_all : (n : ℕ) (zs : RawTerms) → number_of_terms zs ≤ n → front n zs ≡ zs
front_all zero nil h = refl
front_all zero (cons z zs) h = absurd (omega (arith, h))
front_all (suc n) nil h = refl
front_all (suc n) (cons z zs) h = ap (cons z) (front_all n zs (omega (arith, h)))

pub skip_number : (n : ℕ) (zs : RawTerms) → number_of_terms (skip n zs) ≤ number_of_terms zs
skip_number zero zs = omega arith
skip_number (suc n) nil = omega arith
skip_number (suc n) (cons z zs) = omega (arith, skip_number n zs)
