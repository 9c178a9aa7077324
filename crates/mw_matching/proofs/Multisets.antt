-- Parts of multisets of terms: what lies within a list in order, the different elements, and the parts of which there
-- are several.
use Rattle.std.specs.Prelude.{◌≡◌, ℕ, zero, suc, ◌+◌, ◌≤◌, List, [], ◌∷◌, map, Bool, true, false, not, cond, Option, refl}
use Rattle.std.specs.Ordering.{is_eq}
use Rattle.std.proofs.Common.{ap, sym, subst, ◌∙◌, arith}
use Rattle.std.proofs.lemmas.Bool.{both_ways}
use Rattle.mw_logic.specs.Term.{RawTerm, RawTerms, nil, cons, join}
use Rattle.mw_logic.specs.Parts.{number_of_terms}
use Rattle.mw_logic.specs.TermOrder.{compare_terms, stands_after, sorted_terms}
use Rattle.mw_logic.specs.Signature.{Identity}
use Rattle.mw_logic.proofs.OrderLaws.{after-antisym, not_after_itself}
use Rattle.mw_logic.proofs.Elements.{taken}
use Rattle.mw_logic.proofs.Canonical.{Each}
use Rattle.mw_logic.proofs.SortedLists.{occurrences, sorted_terms-counts, same_term, same_itself, Climbs, climbs-sorted, sorted_terms-climbing}
use Rattle.mw_arguments.specs.Bags.{same, with_one, runs, heads, AreAfter, Rises}
use Rattle.mw_arguments.proofs.Runs.{same-equal, runs-rise}
use Rattle.mw_arguments.proofs.Spread.{occurrences-join, occurrences-sorted}
use Rattle.mw_arguments.proofs.Standing.{taken_head}
use Rattle.mw_matching.specs.Multisets.{is_within, left_behind, term_at, without, is_new, news}
use Rattle.mw_matching.specs.Bagged.{shares}

-- one if the terms are equal
abbrev one_if : RawTerm → RawTerm → ℕ
one_if v u = cond (is_eq (compare_terms v u)) 1 0

-- what all have, that which occurs has
pub each_occurs : (P : RawTerm → Type 0) (v : RawTerm) (us : RawTerms) → Each P us → 1 ≤ occurrences v us → P v
each_occurs P v nil h k = absurd (omega (arith, k))
each_occurs P v (cons u us) h k = by_test (is_eq (compare_terms v u)) refl k (each_occurs P v us h.1)
  where
    by_test : (b : Bool) → is_eq (compare_terms v u) ≡ b → 1 ≤ cond b 1 0 + occurrences v us → (1 ≤ occurrences v us → P v) → P v
    by_test true e k r = subst P (sym (same_term v u e)) h.0
    by_test false e k r = r (omega (arith, k))

-- the head of a list in order stands after none that occurs there
head_least : (u v : RawTerm) (us : RawTerms) → Climbs (cons u us) → 1 ≤ occurrences v (cons u us) → stands_after u v ≡ false
head_least u v us h k = each_occurs (λ w. stands_after u w ≡ false) v (cons u us) (not_after_itself u, h.0) k

occurs_first : (u : RawTerm) (us : RawTerms) → 1 ≤ occurrences u (cons u us)
occurs_first u us = let e : occurrences u (cons u us) ≡ 1 + occurrences u us = rw (same_itself u) refl in omega (arith, e)

-- a list lies within another where no term occurs more often in it
pub within_counts : (us zs : RawTerms) → Climbs us → Climbs zs → ((v : RawTerm) → occurrences v us ≤ occurrences v zs) → is_within us zs ≡ true
within_counts nil zs a b q = refl
within_counts (cons u us) nil a b q = let k = q u in let o = occurs_first u us in absurd (omega (arith, k, o))
within_counts (cons u us) (cons z zs) a b q = by_test (same u z) refl (within_counts us zs a.1 b.1) (within_counts (cons u us) zs a b.1)
  where
    fewer : u ≡ z → (v : RawTerm) → occurrences v us ≤ occurrences v zs
    fewer e v =
        let k : cond (is_eq (compare_terms v u)) 1 0 + occurrences v us ≤ cond (is_eq (compare_terms v z)) 1 0 + occurrences v zs = q v in
        let f : cond (is_eq (compare_terms v u)) 1 0 ≡ cond (is_eq (compare_terms v z)) 1 0 = ap (one_if v) e in
        omega (arith, k, f)

    none : same u z ≡ false → occurrences z (cons u us) ≡ 0
    none e = of (occurrences z (cons u us)) refl
      where
        of : (n : ℕ) → occurrences z (cons u us) ≡ n → n ≡ 0
        of zero w = refl
        of (suc n) w =
            let l : stands_after u z ≡ false = head_least u z us a (omega (arith, w)) in
            let k = q u in
            let o = occurs_first u us in
            let g : stands_after z u ≡ false = head_least z u zs b (omega (arith, k, o)) in
            absurd (both_ways _ e (same-equal u z (after-antisym u z l g)))

    later : same u z ≡ false → (v : RawTerm) → occurrences v (cons u us) ≤ occurrences v zs
    later e v = of (is_eq (compare_terms v z)) refl (q v)
      where
        of : (b : Bool) → is_eq (compare_terms v z) ≡ b → occurrences v (cons u us) ≤ cond b 1 0 + occurrences v zs → occurrences v (cons u us) ≤ occurrences v zs
        of true w k = let n : occurrences v (cons u us) ≡ 0 = ap (λ x. occurrences x (cons u us)) (same_term v z w) ∙ none e in omega (arith, n)
        of false w k = omega (arith, k)

    by_test : (b : Bool) → same u z ≡ b → (((v : RawTerm) → occurrences v us ≤ occurrences v zs) → is_within us zs ≡ true)
        → (((v : RawTerm) → occurrences v (cons u us) ≤ occurrences v zs) → is_within (cons u us) zs ≡ true) → cond b (is_within us zs) (is_within (cons u us) zs) ≡ true
    by_test true e r n = r (fewer (same_term u z e))
    by_test false e r n = n (later e)

-- how often each occurs in what is left
pub left_counts : (us zs : RawTerms) → is_within us zs ≡ true → (v : RawTerm) → occurrences v zs ≡ occurrences v us + occurrences v (left_behind us zs)
left_counts nil zs w v = omega arith
left_counts (cons u us) nil w v = absurd (both_ways _ refl w)
left_counts (cons u us) (cons z zs) w v = by_test (same u z) refl (λ w. left_counts us zs w v) (λ w. left_counts (cons u us) zs w v) w
  where
    by_test : (b : Bool) → same u z ≡ b → (is_within us zs ≡ true → occurrences v zs ≡ occurrences v us + occurrences v (left_behind us zs))
        → (is_within (cons u us) zs ≡ true → occurrences v zs ≡ occurrences v (cons u us) + occurrences v (left_behind (cons u us) zs)) → cond b (is_within us zs) (is_within (cons u us) zs) ≡ true → occurrences v (cons z zs) ≡ occurrences v (cons u us) + occurrences v (cond b (left_behind us zs) (cons z (left_behind (cons u us) zs)))
    by_test true e i n w =
        let r : occurrences v zs ≡ occurrences v us + occurrences v (left_behind us zs) = i w in
        let f : cond (is_eq (compare_terms v u)) 1 0 ≡ cond (is_eq (compare_terms v z)) 1 0 = ap (one_if v) (same_term u z e) in
        omega (arith, r, f)
    by_test false e i n w = let r : occurrences v zs ≡ occurrences v (cons u us) + occurrences v (left_behind (cons u us) zs) = n w in omega (arith, r)

-- what is left is in order, and has what all had
pub each_left : (P : RawTerm → Type 0) (us zs : RawTerms) → Each P zs → Each P (left_behind us zs)
each_left P nil zs h = h
each_left P (cons u us) nil h = tt
each_left P (cons u us) (cons z zs) h = by_test (same u z) (each_left P us zs h.1) (each_left P (cons u us) zs h.1)
  where
    by_test : (b : Bool) → Each P (left_behind us zs) → Each P (left_behind (cons u us) zs) → Each P (cond b (left_behind us zs) (cons z (left_behind (cons u us) zs)))
    by_test true r n = r
    by_test false r n = (h.0, n)

pub climbs_left : (us zs : RawTerms) → Climbs zs → Climbs (left_behind us zs)
climbs_left nil zs h = h
climbs_left (cons u us) nil h = tt
climbs_left (cons u us) (cons z zs) h = by_test (same u z) (climbs_left us zs h.1) (climbs_left (cons u us) zs h.1)
  where
    by_test : (b : Bool) → Climbs (left_behind us zs) → Climbs (left_behind (cons u us) zs) → Climbs (cond b (left_behind us zs) (cons z (left_behind (cons u us) zs)))
    by_test true r n = r
    by_test false r n = (each_left (λ v. stands_after z v ≡ false) (cons u us) zs h.0, n)

-- a list within another, and what is left, are the other
pub within_whole : (us zs : RawTerms) → Climbs zs → is_within us zs ≡ true → sorted_terms (join us (left_behind us zs)) ≡ zs
within_whole us zs h w =
    sorted_terms-counts (join us (left_behind us zs)) zs (λ v. occurrences-join v us (left_behind us zs) ∙ sym (left_counts us zs w v)) ∙ sorted_terms-climbing zs h

-- where two lists in order are a third one, the first lies within it, and the second is what is left
pub joined_counts : (us r zs : RawTerms) → sorted_terms (join us r) ≡ zs → (v : RawTerm) → occurrences v zs ≡ occurrences v us + occurrences v r
joined_counts us r zs e v = ap (occurrences v) (sym e) ∙ occurrences-sorted v (join us r) ∙ occurrences-join v us r

pub within_joined : (us r zs : RawTerms) → Climbs us → sorted_terms (join us r) ≡ zs → is_within us zs ≡ true
within_joined us r zs a e = within_counts us zs a (subst Climbs e (climbs-sorted (join us r))) (λ v. (let k = joined_counts us r zs e v in omega (arith, k)))

pub left_joined : (us r zs : RawTerms) → Climbs us → sorted_terms r ≡ r → sorted_terms (join us r) ≡ zs → left_behind us zs ≡ r
left_joined us r zs a o e =
    let b : Climbs zs = subst Climbs e (climbs-sorted (join us r)) in
    let w : is_within us zs ≡ true = within_joined us r zs a e in
    sym (sorted_terms-climbing (left_behind us zs) (climbs_left us zs b))
    ∙ sorted_terms-counts (left_behind us zs) r (λ v. (let k = left_counts us zs w v in let j = joined_counts us r zs e v in omega (arith, k, j))) ∙ o

-- the share of an index: the element, and the others
abbrev pub share_at : RawTerms → ℕ → RawTerm × RawTerms
share_at zs n = (term_at n zs, without n zs)

abbrev pub share_by : RawTerms → RawTerm → RawTerm × RawTerms
share_by zs d = (d, taken d zs)

abbrev put_before : RawTerm → RawTerm × RawTerms → RawTerm × RawTerms
put_before z s = (s.0, cons z s.1)

-- behind the first
abbrev behind : {X : Type 0} → List X → List X
behind [] = []
behind (x ∷ xs) = xs

news_shifted : (z : RawTerm) (zs : RawTerms) (i n : ℕ) → news (cons z zs) (suc (suc i)) n ≡ map suc (news zs (suc i) n)
news_shifted z zs i zero = refl
news_shifted z zs i (suc n) = by_test (is_new zs (suc i)) (news_shifted z zs (suc i) n)
  where
    by_test : (b : Bool) → news (cons z zs) (suc (suc (suc i))) n ≡ map suc (news zs (suc (suc i)) n)
        → cond b (suc (suc i) ∷ news (cons z zs) (suc (suc (suc i))) n) (news (cons z zs) (suc (suc (suc i))) n) ≡ map suc (cond b (suc i ∷ news zs (suc (suc i)) n) (news zs (suc (suc i)) n))
    by_test true r = ap (λ xs. suc (suc i) ∷ xs) r
    by_test false r = r

-- an element put before others shifts the shares
shares_shifted : (z : RawTerm) (zs : RawTerms) (ns : List ℕ) → map (share_at (cons z zs)) (map suc ns) ≡ map (put_before z) (map (share_at zs) ns)
shares_shifted z zs [] = refl
shares_shifted z zs (n ∷ ns) = ap (λ xs. (term_at n zs, cons z (without n zs)) ∷ xs) (shares_shifted z zs ns)

taken_behind : (z : RawTerm) (zs : RawTerms) (ds : List RawTerm) → AreAfter z ds → map (share_by (cons z zs)) ds ≡ map (put_before z) (map (share_by zs) ds)
taken_behind z zs [] h = refl
taken_behind z zs (d ∷ ds) h = rw (h.0, taken_behind z zs ds h.1) refl

-- the first run is that of the first element
first_head : (z : RawTerm) (zs : RawTerms) → heads (runs (cons z zs)) ≡ z ∷ behind (heads (runs (cons z zs)))
first_head z zs = of (runs zs)
  where
    of : (rs : List (RawTerm × ℕ)) → heads (with_one z rs) ≡ z ∷ behind (heads (with_one z rs))
    of [] = refl
    of (r ∷ rs) = by_test (same z r.0) refl
      where
        by_test : (b : Bool) → same z r.0 ≡ b → heads (cond b ((r.0, suc r.1) ∷ rs) ((z, 1) ∷ r ∷ rs)) ≡ z ∷ behind (heads (cond b ((r.0, suc r.1) ∷ rs) ((z, 1) ∷ r ∷ rs)))
        by_test true e = ap (λ x. x ∷ heads rs) (sym (same_term z r.0 e))
        by_test false e = refl

-- a head before those of runs
heads_more : (z y : RawTerm) (ds : List RawTerm) (rs : List (RawTerm × ℕ)) → heads rs ≡ y ∷ ds → heads (with_one z rs) ≡ cond (same z y) (y ∷ ds) (z ∷ y ∷ ds)
heads_more z y ds [] e = cc
heads_more z y ds (r ∷ rs) e =
    let a : r.0 ≡ y = cc in
    let b : heads rs ≡ ds = cc in
    by_test (same z r.0) refl a b
  where
    by_test : (t : Bool) → same z r.0 ≡ t → r.0 ≡ y → heads rs ≡ ds → heads (cond t ((r.0, suc r.1) ∷ rs) ((z, 1) ∷ r ∷ rs)) ≡ cond (same z y) (y ∷ ds) (z ∷ y ∷ ds)
    by_test true h a b = let f : same z y ≡ true = ap (same z) (sym a) ∙ h in rw f (ap (λ x. x ∷ heads rs) a ∙ ap (λ xs. y ∷ xs) b)
    by_test false h a b = let f : same z y ≡ false = ap (same z) (sym a) ∙ h in rw f (ap (λ x. z ∷ x ∷ heads rs) a ∙ ap (λ xs. z ∷ y ∷ xs) b)

same_back : (t u : RawTerm) (b : Bool) → same t u ≡ b → same u t ≡ b
same_back t u true h = same-equal u t (sym (same_term t u h))
same_back t u false h = by_test (same u t) refl
  where
    by_test : (b : Bool) → same u t ≡ b → b ≡ false
    by_test true e = absurd (both_ways _ h (same-equal t u (sym (same_term u t e))))
    by_test false e = refl

-- one element more in front
module _ (z y : RawTerm) (ys : RawTerms) (h : Climbs (cons z (cons y ys))) where
  abbrev zs : RawTerms
  zs = cons y ys

  abbrev ds : List RawTerm
  ds = behind (heads (runs zs))

  abbrev ns : List ℕ
  ns = news zs (suc zero) (number_of_terms ys)

  heads_are : (b : Bool) → same z y ≡ b → heads (runs (cons z zs)) ≡ cond b (y ∷ ds) (z ∷ y ∷ ds)
  heads_are b e = heads_more z y ds (runs zs) (first_head y ys) ∙ ap (λ b. cond b (y ∷ ds) (z ∷ y ∷ ds)) e

  rises : Rises (y ∷ ds)
  rises = subst Rises (first_head y ys) (runs-rise zs h.1)

  shares_behind : map (share_at zs) ns ≡ map (share_by zs) ds → (b : Bool) → same z y ≡ b
      → map (share_at (cons z zs)) (cond (not (same y z)) (suc zero ∷ news (cons z zs) (suc (suc zero)) (number_of_terms ys)) (news (cons z zs) (suc (suc zero)) (number_of_terms ys)))
      ≡ map (share_by (cons z zs)) (behind (heads (runs (cons z zs))))
  shares_behind before true e =
      let f : same y z ≡ true = same_back z y true e in
      let w : y ≡ z = sym (same_term z y e) in
      let a : AreAfter z ds = subst (λ x. AreAfter x ds) w rises.0 in
      ap (λ b. map (share_at (cons z zs)) (cond (not b) (suc zero ∷ news (cons z zs) (suc (suc zero)) (number_of_terms ys)) (news (cons z zs) (suc (suc zero)) (number_of_terms ys)))) f
      ∙ ap (map (share_at (cons z zs))) (news_shifted z zs zero (number_of_terms ys)) ∙ shares_shifted z zs ns ∙ ap (map (put_before z)) before
      ∙ sym (taken_behind z zs ds a) ∙ ap (λ xs. map (share_by (cons z zs)) (behind xs)) (sym (heads_are true e))
  shares_behind before false e =
      let f : same y z ≡ false = same_back z y false e in
      let r : Rises (z ∷ y ∷ ds) = subst Rises (heads_are false e) (runs-rise (cons z zs) h) in
      ap (λ b. map (share_at (cons z zs)) (cond (not b) (suc zero ∷ news (cons z zs) (suc (suc zero)) (number_of_terms ys)) (news (cons z zs) (suc (suc zero)) (number_of_terms ys)))) f
      ∙ ap (λ xs. map (share_at (cons z zs)) (suc zero ∷ xs)) (news_shifted z zs zero (number_of_terms ys)) ∙ shares_shifted z zs (zero ∷ ns)
      ∙ ap (λ xs. map (put_before z) ((y, ys) ∷ xs)) before ∙ ap (λ xs. map (put_before z) ((y, xs) ∷ map (share_by zs) ds)) (sym (taken_head y ys))
      ∙ sym (taken_behind z zs (y ∷ ds) r.0) ∙ ap (λ xs. map (share_by (cons z zs)) (behind xs)) (sym (heads_are false e))

-- the shares behind the first
later_shares : (z : RawTerm) (zs : RawTerms) → Climbs (cons z zs)
    → map (share_at (cons z zs)) (news (cons z zs) (suc zero) (number_of_terms zs)) ≡ map (share_by (cons z zs)) (behind (heads (runs (cons z zs))))
later_shares z nil h = refl
later_shares z (cons y ys) h = shares_behind z y ys h (later_shares y ys h.1) (same z y) refl

-- The different elements by their indices, each with what it leaves: the shares of a pattern that is one element.
pub news_shares : (e : Option Identity) (f : ℕ) (zs : RawTerms) → Climbs zs → map (share_at zs) (news zs 0 (number_of_terms zs)) ≡ shares e f true zs
news_shares e f nil h = refl
news_shares e f (cons z zs) h =
    ap (λ xs. (z, zs) ∷ xs) (later_shares z zs h) ∙ ap (λ ts. (z, ts) ∷ map (share_by (cons z zs)) (behind (heads (runs (cons z zs))))) (sym (taken_head z zs))
    ∙ ap (map (share_by (cons z zs))) (sym (first_head z zs))
