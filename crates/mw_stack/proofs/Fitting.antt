-- A term that fits at a place among others that are in order.
use Rattle.std.specs.Prelude.{◌≡◌, ◌<◌, ◌≤◌, ◌+◌, ◌-◌, ℕ, List, ◌∷◌, ◌++◌, take, drop, length, get_or, Bool, true, false, not}
use Rattle.std.specs.Ordering.{is_gt}
use Rattle.std.proofs.Common.{arith, ap, sym, subst, ◌∙◌}
use Rattle.std.proofs.Math.Seq.{take-length}
use Rattle.std.proofs.lemmas.List.{take-append-drop, length-take, length-drop, get_or-take, get_or-drop}
use Rattle.mw_logic.specs.Term.{RawTerm, RawTerms, nil, cons, join}
use Rattle.mw_logic.specs.Terms.{terms_of}
use Rattle.mw_logic.specs.TermOrder.{compare_terms, stands_after, insert_term, sorted_terms}
use Rattle.mw_logic.proofs.Pushed.{terms_of-append}
use Rattle.mw_logic.proofs.SortLaws.{sorted_terms-comm}
use Rattle.mw_logic.proofs.SortedLists.{Climbs, climbs, sorted_terms-climbing}
use Rattle.mw_stack.specs.Own.{own}
use Rattle.mw_stack.specs.Runs.{IsRun, GoesBehind, GoesBefore}
use Rattle.mw_stack.proofs.Cutting.{climbs_parts}
use Rattle.mw_stack.proofs.Searched.{after_test}
use Rattle.mw_stack.proofs.Piles.{same_item, inserted, none_below_first, across}

-- tests of the terms at a place
pub behind_by_test : (xs : List RawTerm) (t u : RawTerm) (i : ℕ) (b : Bool) → i - 1 < length xs → u ≡ get_or xs (i - 1) u → b ≡ is_gt (compare_terms u t) → not b ≡ true → GoesBehind xs t i
behind_by_test xs t u i true l e h k = absurd cc
behind_by_test xs t u i false l e h k = λ d m. subst (λ v. stands_after v t ≡ false) (e ∙ same_item xs (i - 1) u d l) (after_test u t false h)

pub before_by_test : (xs : List RawTerm) (t u : RawTerm) (i : ℕ) (b : Bool) → u ≡ get_or xs i u → b ≡ is_gt (compare_terms t u) → not b ≡ true → GoesBefore xs t i
before_by_test xs t u i true e h k = absurd cc
before_by_test xs t u i false e h k = λ d l. subst (λ v. stands_after t v ≡ false) (e ∙ same_item xs i u d l) (after_test t u false h)

-- the term put in at the place is in order with the others
pub fits_puts : (xs : List RawTerm) (t : RawTerm) (p : ℕ) → IsRun xs → p ≤ length xs → GoesBehind xs t p → GoesBefore xs t p → terms_of (take p xs ++ t ∷ drop p xs) ≡ sorted_terms (join (terms_of xs) (cons t nil))
fits_puts xs t p o l h k =
    let ys : List RawTerm = take p xs in
    let zs : List RawTerm = drop p xs in
    let B : RawTerms = terms_of ys in
    let A : RawTerms = terms_of zs in
    let whole : join B A ≡ terms_of xs = sym (terms_of-append ys zs) ∙ ap terms_of (take-append-drop p xs) in
    let parts : Climbs B × Climbs A = climbs_parts B A (subst Climbs (sym whole) (climbs (terms_of xs) o)) in
    let next : Climbs (terms_of (t ∷ zs)) = (none_below_first t zs parts.1 (λ d m. subst (λ u. stands_after t u ≡ false) (sym (first d)) (k d (omega (arith, m, length-drop p xs)))), parts.1) in
    let all : Climbs (terms_of (ys ++ t ∷ zs)) = across ys (t ∷ zs) parts.0 next (λ d e m n. subst (λ u. stands_after u t ≡ false) (sym (last d (omega (arith, m, length-take p xs)))) (h d (omega (arith, m, length-take p xs)))) in
    sym (sorted_terms-climbing (terms_of (ys ++ t ∷ zs)) all) ∙ ap sorted_terms (terms_of-append ys (t ∷ zs)) ∙ sorted_terms-comm B (cons t A)
    ∙ ap (insert_term t) (sorted_terms-comm A B ∙ ap sorted_terms whole) ∙ sorted_terms-comm (cons t nil) (terms_of xs)
  where
    first : (d : RawTerm) → get_or (drop p xs) 0 d ≡ get_or xs p d
    first d = let e : p + 0 ≡ p = omega arith in get_or-drop p xs 0 d ∙ ap (λ n. get_or xs n d) e

    last : (d : RawTerm) → 0 < p → get_or (take p xs) (length (take p xs) - 1) d ≡ get_or xs (p - 1) d
    last d m = let e : length (take p xs) ≡ p = omega (arith, l, length-take p xs) in ap (λ n. get_or (take p xs) (n - 1) d) e ∙ get_or-take p xs (p - 1) d (omega (arith, m))

-- so an operator's own arguments with one that is put in there
pub own_fitted : (xs ys : List RawTerm) (x : RawTerm) (from p at : ℕ) → from ≤ length xs → sorted_terms (own from xs) ≡ own from xs → p ≤ length (drop from xs) → GoesBehind (drop from xs) x p → GoesBefore (drop from xs) x p → at ≡ from + p → ys ≡ take at xs ++ x ∷ drop at xs
    → own from ys ≡ sorted_terms (join (own from xs) (cons x nil))
own_fitted xs ys x from p at l o m h k a e =
    ap (own from) (e ∙ ap (λ n. take n xs ++ x ∷ drop n xs) a) ∙ ap terms_of (inserted xs x from p l) ∙ fits_puts (drop from xs) x p o m h k

-- where one stands behind a place, those before it are all others
pub others_ordered : (xs ys : List RawTerm) (from at : ℕ) → from ≤ at → length ys ≡ at → take (at - from) (drop from xs) ≡ take (at - from) (drop from ys) → sorted_terms (terms_of (take (at - from) (drop from xs))) ≡ terms_of (take (at - from) (drop from xs)) → sorted_terms (own from ys) ≡ own from ys
others_ordered xs ys from at l s e o =
    let n : at - from ≡ length (drop from ys) = omega (arith, l, s, length-drop from ys) in
    let all : take (at - from) (drop from xs) ≡ drop from ys = e ∙ ap (λ k. take k (drop from ys)) n ∙ take-length (drop from ys) in
    subst (λ zs. sorted_terms (terms_of zs) ≡ terms_of zs) all o
