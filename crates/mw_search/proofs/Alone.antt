-- An element of a multiset in order that differs from its neighbours stands there once.
use Rattle.std.specs.Prelude.{◌≡◌, ◌<◌, ℕ, zero, suc, ◌+◌, List, [], ◌∷◌, length, get_or, Bool, true, false, not, refl, IsTrue}
use Rattle.std.specs.List.{IsAllAdjacentAnswer}
use Rattle.std.specs.Ordering.{is_gt}
use Rattle.std.proofs.Common.{◌∙◌, sym, subst, arith}
use Rattle.std.proofs.lemmas.Bool.{not-true}
use Rattle.mw_logic.specs.Term.{RawTerm, RawTerms, nil, cons}
use Rattle.mw_logic.specs.Terms.{terms_of}
use Rattle.mw_logic.specs.TermOrder.{compare_terms, stands_after}
use Rattle.mw_logic.specs.Parts.{number_of_terms}
use Rattle.mw_logic.proofs.Canonical.{Each}
use Rattle.mw_logic.proofs.OrderLaws.{after-antisym}
use Rattle.mw_logic.proofs.SortedLists.{Climbs, NoneBelow-lower, same_term, same_itself}
use Rattle.mw_arguments.specs.Bags.{same}
use Rattle.mw_matching.specs.Multisets.{is_within, term_at, without, is_new}
use Rattle.mw_search.specs.Bags.{IsAlone}

differs : (t u : RawTerm) → same t u ≡ false → t ≡ u → ⊥
differs t u s e = let same_still : same t u ≡ true = subst (λ v. same t v ≡ true) e (same_itself t) in cc

apart : (t u : RawTerm) → (t ≡ u → ⊥) → same t u ≡ false
apart t u h = by_test (same t u) refl
  where
    by_test : (b : Bool) → same t u ≡ b → b ≡ false
    by_test true e = absurd (h (same_term t u e))
    by_test false e = refl

-- an element that is none of those isn't within
none_within : (t : RawTerm) (zs : RawTerms) → Each (λ u. same t u ≡ false) zs → is_within (cons t nil) zs ≡ false
none_within t nil h = refl
none_within t (cons z zs) h = rw h.0 (none_within t zs h.1)

each_at : (P : RawTerm → Type 0) (zs : RawTerms) (n : ℕ) → Each P zs → n < number_of_terms zs → P (term_at n zs)
each_at P nil n h l = absurd (omega (arith, l))
each_at P (cons z zs) zero h l = h.0
each_at P (cons z zs) (suc n) h l = each_at P zs n h.1 (omega (arith, l))

each_map : (P Q : RawTerm → Type 0) (zs : RawTerms) → ((u : RawTerm) → P u → Q u) → Each P zs → Each Q zs
each_map P Q nil f h = tt
each_map P Q (cons z zs) f h = (f z h.0, each_map P Q zs f h.1)

-- the first differs from all behind it where it differs from the next
first_apart : (z : RawTerm) (zs : RawTerms) → Climbs (cons z zs) → (0 < number_of_terms zs → same (term_at 0 zs) z ≡ false) → Each (λ u. same z u ≡ false) zs
first_apart z nil c h = tt
first_apart z (cons y ys) c h =
    let other : z ≡ y → ⊥ = λ e. differs y z (h (omega arith)) (sym e) in (
      apart z y other,
      each_map (λ u. stands_after y u ≡ false) (λ u. same z u ≡ false) ys
          (λ u a. apart z u (λ e. let back : stands_after y z ≡ false = subst (λ v. stands_after y v ≡ false) (sym e) a in other (after-antisym z y c.0.0 back)))
          c.1.0,
    )

-- an element differs from one before those that it differs from in front
behind_apart : (z : RawTerm) (zs : RawTerms) (n : ℕ) → Climbs (cons z zs) → n < number_of_terms zs → is_new (cons z zs) (suc n) ≡ true → same (term_at n zs) z ≡ false
behind_apart z zs zero c l w = not-true (same (term_at zero zs) z) w
behind_apart z (cons y ys) (suc n) c l w =
    let e = term_at n ys in
    let p = term_at n (cons y ys) in
    let apart_here : same e p ≡ false = not-true (same e p) w in
    let low : stands_after z p ≡ false = each_at (λ u. stands_after z u ≡ false) (cons y ys) n c.0 (omega (arith, l)) in
    let next : stands_after p e ≡ false = rises (cons y ys) n c.1 l in
    apart e z (λ q. let back : stands_after p z ≡ false = subst (λ u. stands_after p u ≡ false) q next in
    let is : p ≡ z = after-antisym p z back low in
    differs e p apart_here (q ∙ sym is))
  where
    rises : (xs : RawTerms) (m : ℕ) → Climbs xs → suc m < number_of_terms xs → stands_after (term_at m xs) (term_at (suc m) xs) ≡ false
    rises nil m d k = absurd (omega (arith, k))
    rises (cons x xs) zero d k = each_at (λ u. stands_after x u ≡ false) xs zero d.0 (omega (arith, k))
    rises (cons x xs) (suc m) d k = rises xs m d.1 (omega (arith, k))
behind_apart z nil (suc n) c l w = absurd (omega (arith, l))

all_apart : (zs : RawTerms) (n : ℕ) → Climbs zs → n < number_of_terms zs → is_new zs n ≡ true → (suc n < number_of_terms zs → same (term_at (suc n) zs) (term_at n zs) ≡ false)
    → Each (λ u. same (term_at n zs) u ≡ false) (without n zs)
all_apart nil n c l w h = absurd (omega (arith, l))
all_apart (cons z zs) zero c l w h = first_apart z zs c (λ k. h (omega (arith, k)))
all_apart (cons z zs) (suc n) c l w h = (behind_apart z zs n c (omega (arith, l)) w, all_apart zs n c.1 (omega (arith, l)) (still n w) (λ k. h (omega (arith, k))))
  where
    still : (m : ℕ) → is_new (cons z zs) (suc m) ≡ true → is_new zs m ≡ true
    still zero v = refl
    still (suc m) v = v

pub alone : (zs : RawTerms) (n : ℕ) → Climbs zs → n < number_of_terms zs → is_new zs n ≡ true → (n + 1 < number_of_terms zs → same (term_at (n + 1) zs) (term_at n zs) ≡ false) → IsAlone zs n
alone zs n c l w h =
    let next : n + 1 ≡ suc n = omega arith in
    none_within (term_at n zs) (without n zs) (all_apart zs n c l w (λ k. subst (λ m. same (term_at m zs) (term_at n zs) ≡ false) next (h (omega (arith, k)))))

-- terms climb where none stands after the next
pub climbing : (xs : List RawTerm) → ((k : ℕ) (d : RawTerm) → k + 1 < length xs → not (is_gt (compare_terms (get_or xs k d) (get_or xs (k + 1) d))) ≡ true) → Climbs (terms_of xs)
unfolding stands_after
climbing [] h = tt
climbing (x ∷ []) h = (tt, tt)
climbing (x ∷ y ∷ ys) h =
    let first : stands_after x y ≡ false = not-true (is_gt (compare_terms x y)) (h 0 x (omega arith)) in
    let rest : Climbs (terms_of (y ∷ ys)) = climbing (y ∷ ys) (λ k d l. later k d l) in
    ((first, NoneBelow-lower x y (terms_of ys) first rest.0), rest)
  where
    later : (k : ℕ) (d : RawTerm) → k + 1 < length (y ∷ ys) → not (is_gt (compare_terms (get_or (y ∷ ys) k d) (get_or (y ∷ ys) (k + 1) d))) ≡ true
    later k d l =
        let e : suc k + 1 ≡ suc (k + 1) = omega arith in
        subst (λ j. not (is_gt (compare_terms (get_or (y ∷ ys) k d) (get_or (x ∷ y ∷ ys) j d))) ≡ true) e (h (suc k) d (omega (arith, l)))

-- what a test of neighbours answers
pub neighbours : (xs : List RawTerm) (b : Bool) → IsAllAdjacentAnswer (λ x y r. r ≡ not (is_gt (compare_terms x y))) xs b → IsTrue b → (k : ℕ) (d : RawTerm) → k + 1 < length xs → not (is_gt (compare_terms (get_or xs k d) (get_or xs (k + 1) d))) ≡ true
neighbours xs true h w = λ k d l. sym (h k d l)
neighbours xs false h w = cc
