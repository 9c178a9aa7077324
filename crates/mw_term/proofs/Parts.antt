-- Parts of lists of terms, by place.
use Rattle.std.proofs.Common.{◌≡◌, ◌∙◌, ℕ, zero, suc, ◌+◌, ◌-◌, ◌≤◌, min, List, [], ◌∷◌, length, take, drop, ap, sym, refl, arith}
use Rattle.std.proofs.lemmas.List.{take_all, take_min, take-take, drop_min, drop-take, drop-drop, length-drop, length-take}
use Rattle.std.specs.Prelude.{slice_range}
use Rattle.mw_logic.specs.Term.{RawTerm, cons}
use Rattle.mw_logic.specs.Terms.{terms_of, front, skip}

front_taken : (n : ℕ) (xs : List RawTerm) → terms_of (take n xs) ≡ front n (terms_of xs)
front_taken zero xs = refl
front_taken (suc n) [] = refl
front_taken (suc n) (x ∷ xs) = ap (cons x) (front_taken n xs)

skip_dropped : (n : ℕ) (xs : List RawTerm) → terms_of (drop n xs) ≡ skip n (terms_of xs)
skip_dropped zero xs = refl
skip_dropped (suc n) [] = refl
skip_dropped (suc n) (x ∷ xs) = skip_dropped n xs

pub to_the_end : (xs : List RawTerm) (from end : ℕ) → end ≡ length xs → slice_range xs from end ≡ drop from xs
to_the_end xs from end e = take_all (end - from) (drop from xs) (omega (arith, length-drop from xs, e))

-- so many from a place on, as far as there are
pub part_is : (xs rest : List RawTerm) (from count start end : ℕ) → start ≡ min from (length xs) → rest ≡ drop start xs → end ≡ min count (length rest)
    → terms_of (take end rest) ≡ front count (skip from (terms_of xs))
part_is xs rest from count start end es er ee =
    let r : rest ≡ drop from xs = er ∙ ap (λ n. drop n xs) es ∙ drop_min from xs in
    ap (λ n. terms_of (take n rest)) ee ∙ ap terms_of (take_min count rest) ∙ front_taken count rest
    ∙ ap (λ (ys : List RawTerm). front count (terms_of ys)) r ∙ ap (front count) (skip_dropped from xs)

-- the same of the terms between two places
pub cut_is : (ts : List RawTerm) (first last from count start size place end : ℕ) → first ≤ last → last ≤ length ts
    → start ≡ min from (last - first) → size ≡ min count (last - first - start) → place ≡ first + start → end ≡ place + size
    → terms_of (slice_range ts place end) ≡ front count (skip from (terms_of (slice_range ts first last)))
cut_is ts first last from count start size place end h k es ez ep ee =
    let rest : ℕ = last - first - start in
    let xs : List RawTerm = take (last - first) (drop first ts) in
    let n : length xs ≡ last - first = length-take (last - first) (drop first ts) ∙ omega (arith, length-drop first ts, h, k) in
    let m : last - first ≡ start + rest = omega (arith, es) in
    let p : first + start ≡ place = omega (arith, ep) in
    let z : size ≡ end - place = omega (arith, ee) in
    let d : drop start xs ≡ take rest (drop place ts) =
    ap (λ i. drop start (take i (drop first ts))) m ∙ drop-take start rest (drop first ts) ∙ ap (take rest) (drop-drop start first ts ∙ ap (λ i. drop i ts) p) in
    let s : take size (drop start xs) ≡ slice_range ts place end =
    ap (take size) d ∙ take-take size rest (drop place ts) (omega (arith, ez)) ∙ ap (λ i. take i (drop place ts)) z in
    let l : length (drop start xs) ≡ rest = length-drop start xs ∙ ap (λ i. i - start) n in
    sym (ap terms_of s) ∙ part_is xs (drop start xs) from count start size (es ∙ ap (min from) (sym n)) refl (ez ∙ ap (min count) (sym l))
