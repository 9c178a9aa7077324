-- How often terms stand in the spread of a multiset: it is in order, and the numbers can be read off.
use Rattle.std.specs.Prelude.{◌≡◌, ◌+◌, ◌≤◌, ℕ, zero, suc, List, [], ◌∷◌, length, get_or, Bool, true, false, cond, refl}
use Rattle.std.specs.Ordering.{is_eq}
use Rattle.std.proofs.Common.{ap, sym, subst, ◌∙◌, arith}
use Rattle.std.proofs.lemmas.Bool.{both_ways}
use Rattle.mw_logic.specs.Term.{RawTerm, RawTerms, nil, cons, join}
use Rattle.mw_logic.specs.TermOrder.{compare_terms, stands_after, insert_term, sorted_terms}
use Rattle.mw_logic.proofs.OrderLaws.{after-asym, not_after_itself}
use Rattle.mw_logic.proofs.SortedLists.{occurrences, sorted_terms-counts, same_term, same_itself, NoneBelow, insert_first}
use Rattle.mw_arguments.specs.Bags.{copies, spread, AreAfter, Rises}

-- one if the terms are equal
abbrev same_one : RawTerm → RawTerm → ℕ
same_one v u = cond (is_eq (compare_terms v u)) 1 0

-- a term after another is another
apart : (u d : RawTerm) → stands_after u d ≡ true → is_eq (compare_terms u d) ≡ false
apart u d h = by_test (is_eq (compare_terms u d)) refl
  where
    by_test : (b : Bool) → is_eq (compare_terms u d) ≡ b → b ≡ false
    by_test false q = refl
    by_test true q = absurd (both_ways _ (not_after_itself d) (subst (λ x. stands_after x d ≡ true) (same_term u d q) h))

apart_back : (u d : RawTerm) → stands_after u d ≡ true → is_eq (compare_terms d u) ≡ false
apart_back u d h = by_test (is_eq (compare_terms d u)) refl
  where
    by_test : (b : Bool) → is_eq (compare_terms d u) ≡ b → b ≡ false
    by_test false q = refl
    by_test true q = absurd (both_ways _ (not_after_itself u) (subst (λ x. stands_after u x ≡ true) (same_term d u q) h))

-- how often a term stands in lists
pub occurrences-join : (v : RawTerm) (ts us : RawTerms) → occurrences v (join ts us) ≡ occurrences v ts + occurrences v us
occurrences-join v nil us = omega arith
occurrences-join v (cons t ts) us = let r = occurrences-join v ts us in omega (arith, r)

occurrences-insert : (v t : RawTerm) (us : RawTerms) → occurrences v (insert_term t us) ≡ same_one v t + occurrences v us
occurrences-insert v t nil = refl
occurrences-insert v t (cons u us) = by_test (stands_after t u) (occurrences-insert v t us)
  where
    by_test : (b : Bool) → occurrences v (insert_term t us) ≡ same_one v t + occurrences v us → occurrences v (cond b (cons u (insert_term t us)) (cons t (cons u us))) ≡ same_one v t + occurrences v (cons u us)
    by_test true r = omega (arith, r)
    by_test false r = refl

pub occurrences-sorted : (v : RawTerm) (ts : RawTerms) → occurrences v (sorted_terms ts) ≡ occurrences v ts
occurrences-sorted v nil = refl
occurrences-sorted v (cons t ts) = let a = occurrences-insert v t (sorted_terms ts) in let r = occurrences-sorted v ts in omega (arith, a, r)

-- the numbers of those terms that are v
abbrev pub weigh : RawTerm → List RawTerm → List ℕ → ℕ
weigh v [] ns = 0
weigh v (d ∷ ds) [] = 0
weigh v (d ∷ ds) (n ∷ ns) = cond (is_eq (compare_terms v d)) n 0 + weigh v ds ns

occurrences-copies : (v d : RawTerm) (n : ℕ) (us : RawTerms) → occurrences v (copies n d us) ≡ cond (is_eq (compare_terms v d)) n 0 + occurrences v us
occurrences-copies v d zero us = by_test (is_eq (compare_terms v d))
  where
    by_test : (b : Bool) → occurrences v us ≡ cond b 0 0 + occurrences v us
    by_test true = omega arith
    by_test false = omega arith
occurrences-copies v d (suc n) us = by_test (is_eq (compare_terms v d)) (occurrences-copies v d n us)
  where
    by_test : (b : Bool) → occurrences v (copies n d us) ≡ cond b n 0 + occurrences v us → cond b 1 0 + occurrences v (copies n d us) ≡ cond b (suc n) 0 + occurrences v us
    by_test true r = omega (arith, r)
    by_test false r = omega (arith, r)

pub occurrences-spread : (v : RawTerm) (ds : List RawTerm) (ns : List ℕ) → occurrences v (spread ds ns) ≡ weigh v ds ns
occurrences-spread v [] ns = refl
occurrences-spread v (d ∷ ds) [] = refl
occurrences-spread v (d ∷ ds) (n ∷ ns) = occurrences-copies v d n (spread ds ns) ∙ ap (λ m. cond (is_eq (compare_terms v d)) n 0 + m) (occurrences-spread v ds ns)

weigh_after : (d : RawTerm) (ds : List RawTerm) (ns : List ℕ) → AreAfter d ds → weigh d ds ns ≡ 0
weigh_after d [] ns h = refl
weigh_after d (u ∷ ds) [] h = refl
weigh_after d (u ∷ ds) (n ∷ ns) h = rw (apart_back u d h.0, weigh_after d ds ns h.1) refl

-- spread terms are in order
none_below-copies : (d e : RawTerm) (n : ℕ) (us : RawTerms) → stands_after d e ≡ false → NoneBelow d us → NoneBelow d (copies n e us)
none_below-copies d e zero us h k = k
none_below-copies d e (suc n) us h k = (h, none_below-copies d e n us h k)

none_below-spread : (d : RawTerm) (ds : List RawTerm) (ns : List ℕ) → AreAfter d ds → NoneBelow d (spread ds ns)
none_below-spread d [] ns h = tt
none_below-spread d (u ∷ ds) [] h = tt
none_below-spread d (u ∷ ds) (n ∷ ns) h = none_below-copies d u n (spread ds ns) (after-asym u d h.0) (none_below-spread d ds ns h.1)

sorted-copies : (d : RawTerm) (n : ℕ) (us : RawTerms) → NoneBelow d us → sorted_terms us ≡ us → sorted_terms (copies n d us) ≡ copies n d us
sorted-copies d zero us h e = e
sorted-copies d (suc n) us h e = ap (insert_term d) (sorted-copies d n us h e) ∙ insert_first d (copies n d us) (none_below-copies d d n us (not_after_itself d) h)

pub sorted-spread : (ds : List RawTerm) (ns : List ℕ) → Rises ds → sorted_terms (spread ds ns) ≡ spread ds ns
sorted-spread [] ns h = refl
sorted-spread (d ∷ ds) [] h = refl
sorted-spread (d ∷ ds) (n ∷ ns) h = sorted-copies d n (spread ds ns) (none_below-spread d ds ns h.0) (sorted-spread ds ns h.1)

-- how often each of the terms stands in a list
abbrev pub tallies : List RawTerm → RawTerms → List ℕ
tallies [] us = []
tallies (d ∷ ds) us = occurrences d us ∷ tallies ds us

pub tallies-length : (ds : List RawTerm) (us : RawTerms) → length (tallies ds us) ≡ length ds
tallies-length [] us = refl
tallies-length (d ∷ ds) us = ap suc (tallies-length ds us)

nothing : (n : ℕ) → 0 + n ≡ n
nothing n = omega arith

tallies_skip : (d : RawTerm) (n : ℕ) (ds : List RawTerm) (us : RawTerms) → AreAfter d ds → tallies ds (copies n d us) ≡ tallies ds us
tallies_skip d n [] us h = refl
tallies_skip d n (u ∷ ds) us h =
    let a : occurrences u (copies n d us) ≡ occurrences u us = occurrences-copies u d n us ∙ ap (λ b. cond b n 0 + occurrences u us) (apart u d h.0) ∙ nothing (occurrences u us) in
    rw (a, tallies_skip d n ds us h.1) refl

pub tallies-spread : (ds : List RawTerm) (ns : List ℕ) → Rises ds → length ns ≡ length ds → tallies ds (spread ds ns) ≡ ns
tallies-spread [] [] h l = refl
tallies-spread [] (n ∷ ns) h l = cc
tallies-spread (d ∷ ds) [] h l = cc
tallies-spread (d ∷ ds) (n ∷ ns) h l =
    let a : occurrences d (copies n d (spread ds ns)) ≡ n + occurrences d (spread ds ns) = occurrences-copies d d n (spread ds ns) ∙ ap (λ b. cond b n 0 + occurrences d (spread ds ns)) (same_itself d) in
    let z : occurrences d (spread ds ns) ≡ 0 = occurrences-spread d ds ns ∙ weigh_after d ds ns h.0 in
    let b : occurrences d (copies n d (spread ds ns)) ≡ n = omega (arith, a, z) in
    let r : tallies ds (copies n d (spread ds ns)) ≡ ns = tallies_skip d n ds (spread ds ns) h.0 ∙ tallies-spread ds ns h.1 (omega (arith, l)) in
    rw (b, r) refl

weigh_tallied : (v : RawTerm) (ds : List RawTerm) (ns : List ℕ) (us : RawTerms) → Rises ds → length ns ≡ length ds → occurrences v us ≤ weigh v ds ns → weigh v ds (tallies ds us) ≡ occurrences v us
weigh_tallied v [] ns us h l q = omega (arith, q)
weigh_tallied v (d ∷ ds) [] us h l q = cc
weigh_tallied v (d ∷ ds) (n ∷ ns) us h l q = by_test (is_eq (compare_terms v d)) refl (weigh_tallied v ds ns us h.1 (omega (arith, l))) q
  where
    by_test : (b : Bool) → is_eq (compare_terms v d) ≡ b → (occurrences v us ≤ weigh v ds ns → weigh v ds (tallies ds us) ≡ occurrences v us) → occurrences v us ≤ cond b n 0 + weigh v ds ns
        → cond b (occurrences d us) 0 + weigh v ds (tallies ds us) ≡ occurrences v us
    by_test false q r k = let s = r (omega (arith, k)) in omega (arith, s)
    by_test true q r k =
        let e : v ≡ d = same_term v d q in
        let z : weigh v ds (tallies ds us) ≡ 0 = subst (λ x. weigh x ds (tallies ds us) ≡ 0) (sym e) (weigh_after d ds (tallies ds us) h.0) in
        let s : occurrences v us ≡ occurrences d us = ap (λ x. occurrences x us) e in
        omega (arith, z, s)

-- a list in order whose terms are among these is their spread
pub spread-tallies : (ds : List RawTerm) (ns : List ℕ) (us : RawTerms) → Rises ds → length ns ≡ length ds → sorted_terms us ≡ us → ((v : RawTerm) → occurrences v us ≤ weigh v ds ns)
    → spread ds (tallies ds us) ≡ us
spread-tallies ds ns us h l o q =
    sym (sorted-spread ds (tallies ds us) h)
    ∙ sorted_terms-counts (spread ds (tallies ds us)) us (λ v. occurrences-spread v ds (tallies ds us) ∙ weigh_tallied v ds ns us h l (q v))
    ∙ o

-- of joined lists, of none, and of a list in order
pub tallies-join : (ds : List RawTerm) (j : ℕ) (us ws : RawTerms) → get_or (tallies ds (join us ws)) j 0 ≡ get_or (tallies ds us) j 0 + get_or (tallies ds ws) j 0
tallies-join [] j us ws = omega arith
tallies-join (d ∷ ds) zero us ws = occurrences-join d us ws
tallies-join (d ∷ ds) (suc j) us ws = tallies-join ds j us ws

pub tallies-nil : (ds : List RawTerm) (j : ℕ) → get_or (tallies ds nil) j 0 ≡ 0
tallies-nil [] j = refl
tallies-nil (d ∷ ds) zero = refl
tallies-nil (d ∷ ds) (suc j) = tallies-nil ds j

pub tallies-sorted : (ds : List RawTerm) (us : RawTerms) → tallies ds (sorted_terms us) ≡ tallies ds us
tallies-sorted [] us = refl
tallies-sorted (d ∷ ds) us = rw (occurrences-sorted d us, tallies-sorted ds us) refl
