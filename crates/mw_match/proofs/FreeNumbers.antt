-- The numbers that are free among arguments in order: the terms that are left, and the first among equal ones, which go on the least numbers of what is taken.
use Rattle.std.specs.Prelude.{◌≡◌, ◌≤◌, ◌<◌, ◌+◌, ℕ, suc, List, [], ◌∷◌, map, Bool, true, false, cond, nat_eq, nat_lt, Option, Some, None, refl}
use Rattle.std.proofs.Common.{ap, sym, subst, ◌∙◌, arith}
use Rattle.std.proofs.lemmas.Bool.{both_ways, eqb-true, eq-eqb}
use Rattle.mw_logic.specs.Term.{RawTerm, RawTerms, nil, cons}
use Rattle.mw_logic.specs.Parts.{number_of_terms}
use Rattle.mw_logic.specs.TermOrder.{stands_after, insert_term}
use Rattle.mw_logic.proofs.OrderLaws.{after-trans, after-antisym}
use Rattle.mw_logic.proofs.SortedLists.{same_term, same_itself, Climbs, insert_first}
use Rattle.mw_logic.proofs.Canonical.{Each}
use Rattle.mw_arguments.specs.Bags.{same, with_one, runs, heads}
use Rattle.mw_arguments.specs.Places.{Rise, numbers_of}
use Rattle.mw_arguments.proofs.Places.{numbers_rise}
use Rattle.mw_arguments.proofs.Runs.{same-equal}
use Rattle.mw_matching.specs.Found.{is_among}
use Rattle.mw_matching.specs.Multisets.{is_within, left_behind}
use Rattle.mw_matching.proofs.Multisets.{each_left, climbs_left}
use Rattle.mw_search.specs.Lacking.{Each as EachOf}
use Rattle.mw_match.specs.Choices.{free, is_again, firsts, put}

abbrev pub terms : List (ℕ × RawTerm) → RawTerms
terms [] = nil
terms (z ∷ zs) = cons z.1 (terms zs)

-- numbers that aren't there
other_number : (i k : ℕ) → (i ≡ k → ⊥) → nat_eq i k ≡ false
other_number i k h = by_test (nat_eq i k) refl
  where
    by_test : (b : Bool) → nat_eq i k ≡ b → b ≡ false
    by_test true e = absurd (h (eqb-true i k e))
    by_test false e = refl

not_among : (i j n : ℕ) (ks : List ℕ) → Rise j n ks → i < j → is_among i ks ≡ false
not_among i j n [] r l = refl
not_among i j n (k ∷ ks) r l =
    let a = r.0 in
    rw (other_number i k (λ e. omega (arith, e, a, l)), not_among i (suc k) n ks r.2 (omega (arith, a, l))) refl

free_below : (i k : ℕ) (ks : List ℕ) (ts : RawTerms) → k < i → free i (k ∷ ks) ts ≡ free i ks ts
free_below i k ks nil l = refl
free_below i k ks (cons t ts) l = rw (other_number i k (λ e. omega (arith, e, l)), free_below (suc i) k ks ts (omega (arith, l))) refl

free_taken : (i : ℕ) (ks : List ℕ) (t : RawTerm) (ts : RawTerms) → free i (i ∷ ks) (cons t ts) ≡ free (suc i) ks ts
free_taken i ks t ts = rw (eq-eqb i i refl) (free_below (suc i) i ks ts (omega arith))

free_left : (i : ℕ) (us ts : RawTerms) (t : RawTerm) → free i (numbers_of (suc i) us ts) (cons t ts) ≡ (i, t) ∷ free (suc i) (numbers_of (suc i) us ts) ts
free_left i us ts t = rw (not_among i (suc i) (suc i + number_of_terms ts) (numbers_of (suc i) us ts) (numbers_rise (suc i) us ts) (omega arith)) refl

all_free : (i : ℕ) (ts : RawTerms) → terms (free i [] ts) ≡ ts
all_free i nil = refl
all_free i (cons t ts) = ap (cons t) (all_free (suc i) ts)

-- the terms that are left
pub terms_free : (i : ℕ) (us ts : RawTerms) → terms (free i (numbers_of i us ts) ts) ≡ left_behind us ts
terms_free i nil ts = all_free i ts
terms_free i (cons u us) nil = refl
terms_free i (cons u us) (cons t ts) = by_test (same u t) (terms_free (suc i) us ts) (terms_free (suc i) (cons u us) ts)
  where
    by_test : (b : Bool) → terms (free (suc i) (numbers_of (suc i) us ts) ts) ≡ left_behind us ts → terms (free (suc i) (numbers_of (suc i) (cons u us) ts) ts) ≡ left_behind (cons u us) ts
        → terms (free i (cond b (i ∷ numbers_of (suc i) us ts) (numbers_of (suc i) (cons u us) ts)) (cons t ts)) ≡ cond b (left_behind us ts) (cons t (left_behind (cons u us) ts))
    by_test true r d = ap terms (free_taken i (numbers_of (suc i) us ts) t ts) ∙ r
    by_test false r d = ap terms (free_left i (cons u us) ts t) ∙ ap (cons t) d

-- what all have
pub each_with : {X : Type 0} {P Q R : X → Type 0} (xs : List X) → ((x : X) → P x → Q x → R x) → EachOf P xs → EachOf Q xs → EachOf R xs
each_with [] f h k = tt
each_with (x ∷ xs) f h k = (f x h.0 k.0, each_with xs f h.1 k.1)

pub each_first : (P : ℕ × RawTerm → Type 0) (o : Option RawTerm) (zs : List (ℕ × RawTerm)) → EachOf P zs → EachOf P (firsts o zs)
each_first P o [] h = tt
each_first P o (z ∷ zs) h = by_test (is_again o z.1) (each_first P (Some z.1) zs h.1)
  where
    by_test : (b : Bool) → EachOf P (firsts (Some z.1) zs) → EachOf P (cond b (firsts (Some z.1) zs) (z ∷ firsts (Some z.1) zs))
    by_test true r = r
    by_test false r = (h.0, r)

abbrev pub IsFrom : ℕ → (RawTerm → Type 0) → ℕ × RawTerm → Type 0
IsFrom i P z = (i ≤ z.0) × P z.1

lower : (i : ℕ) (P : RawTerm → Type 0) (zs : List (ℕ × RawTerm)) → EachOf (IsFrom (suc i) P) zs → EachOf (IsFrom i P) zs
lower i P [] h = tt
lower i P (z ∷ zs) h = let a = h.0.0 in ((omega (arith, a), h.0.1), lower i P zs h.1)

pub each_free : (P : RawTerm → Type 0) (i : ℕ) (ks : List ℕ) (ts : RawTerms) → Each P ts → EachOf (IsFrom i P) (free i ks ts)
each_free P i ks nil h = tt
each_free P i ks (cons t ts) h = by_test (is_among i ks) (lower i P (free (suc i) ks ts) (each_free P (suc i) ks ts h.1))
  where
    by_test : (b : Bool) → EachOf (IsFrom i P) (free (suc i) ks ts) → EachOf (IsFrom i P) (cond b (free (suc i) ks ts) ((i, t) ∷ free (suc i) ks ts))
    by_test true r = r
    by_test false r = ((omega arith, h.0), r)

-- those behind a term stand after it
abbrev IsAbove : RawTerm → ℕ × RawTerm → Type 0
IsAbove b z = (stands_after b z.1 ≡ false) × (same b z.1 ≡ false)

higher : (b t d : RawTerm) → stands_after b t ≡ false → stands_after t d ≡ false → same t d ≡ false → same b d ≡ false
higher b t d l k n = by_test (same b d) refl
  where
    by_test : (c : Bool) → same b d ≡ c → c ≡ false
    by_test true e =
        let w : b ≡ d = same_term b d e in
        absurd (both_ways _ n (same-equal t d (after-antisym t d k (subst (λ x. stands_after x t ≡ false) w l))))
    by_test false e = refl

pub above : (b : RawTerm) (zs : List (ℕ × RawTerm)) → Climbs (cons b (terms zs)) → EachOf (IsAbove b) (firsts (Some b) zs)
above b [] h = tt
above b (z ∷ zs) h = by_test (same b z.1) refl (above z.1 zs h.1)
  where
    raised : EachOf (IsAbove z.1) (firsts (Some z.1) zs) → EachOf (IsAbove b) (firsts (Some z.1) zs)
    raised r = each_with {P = IsAbove z.1} {Q = IsAbove z.1} {R = IsAbove b} (firsts (Some z.1) zs) (λ x k _. (after-trans b z.1 x.1 h.0.0 k.0, higher b z.1 x.1 h.0.0 k.0 k.1)) r r

    by_test : (c : Bool) → same b z.1 ≡ c → EachOf (IsAbove z.1) (firsts (Some z.1) zs) → EachOf (IsAbove b) (cond c (firsts (Some z.1) zs) (z ∷ firsts (Some z.1) zs))
    by_test true e r = raised r
    by_test false e r = ((h.0.0, e), raised r)

-- the different terms
heads_of : (z y : RawTerm) (ds : List RawTerm) (rs : List (RawTerm × ℕ)) → heads rs ≡ y ∷ ds → heads (with_one z rs) ≡ cond (same z y) (y ∷ ds) (z ∷ y ∷ ds)
heads_of z y ds [] e = cc
heads_of z y ds (r ∷ rs) e =
    let a : r.0 ≡ y = cc in
    let b : heads rs ≡ ds = cc in
    by_test (same z r.0) refl a b
  where
    by_test : (t : Bool) → same z r.0 ≡ t → r.0 ≡ y → heads rs ≡ ds → heads (cond t ((r.0, suc r.1) ∷ rs) ((z, 1) ∷ r ∷ rs)) ≡ cond (same z y) (y ∷ ds) (z ∷ y ∷ ds)
    by_test true h a b = let f : same z y ≡ true = ap (same z) (sym a) ∙ h in rw f (ap (λ x. x ∷ heads rs) a ∙ ap (λ xs. y ∷ xs) b)
    by_test false h a b = let f : same z y ≡ false = ap (same z) (sym a) ∙ h in rw f (ap (λ x. z ∷ x ∷ heads rs) a ∙ ap (λ xs. z ∷ y ∷ xs) b)

abbrev pub seconds : List (ℕ × RawTerm) → List RawTerm
seconds zs = map (λ (z : ℕ × RawTerm). z.1) zs

later_heads : (b : RawTerm) (zs : List (ℕ × RawTerm)) → heads (runs (cons b (terms zs))) ≡ b ∷ seconds (firsts (Some b) zs)
later_heads b [] = refl
later_heads b (z ∷ zs) = heads_of b z.1 (seconds (firsts (Some z.1) zs)) (runs (cons z.1 (terms zs))) (later_heads z.1 zs) ∙ by_test (same b z.1) refl
  where
    by_test : (c : Bool) → same b z.1 ≡ c → cond c (z.1 ∷ seconds (firsts (Some z.1) zs)) (b ∷ z.1 ∷ seconds (firsts (Some z.1) zs)) ≡ b ∷ seconds (cond c (firsts (Some z.1) zs) (z ∷ firsts (Some z.1) zs))
    by_test true e = ap (λ x. x ∷ seconds (firsts (Some z.1) zs)) (sym (same_term b z.1 e))
    by_test false e = refl

pub different : (zs : List (ℕ × RawTerm)) → heads (runs (terms zs)) ≡ seconds (firsts None zs)
different [] = refl
different (z ∷ zs) = later_heads z.1 zs

-- The number of the first among equal ones that are free is the one by which the least numbers grow.
abbrev GoesOn : ℕ → RawTerms → RawTerms → ℕ × RawTerm → Type 0
GoesOn i us ts z = put z.0 (numbers_of i us ts) ≡ numbers_of i (insert_term z.1 us) ts

put_first : (i : ℕ) (us ts : RawTerms) → put i (numbers_of (suc i) us ts) ≡ i ∷ numbers_of (suc i) us ts
put_first i us ts = of (numbers_of (suc i) us ts) (numbers_rise (suc i) us ts)
  where
    of : (ks : List ℕ) → Rise (suc i) (suc i + number_of_terms ts) ks → put i ks ≡ i ∷ ks
    of [] r = refl
    of (k ∷ ks) r = let a = r.0 in let l : nat_lt i k ≡ true = grind (arith, a) in rw l refl

put_behind : (i n : ℕ) (ks : List ℕ) → i < n → put n (i ∷ ks) ≡ i ∷ put n ks
put_behind i n ks l = let e : nat_lt n i ≡ false = grind (arith, l) in rw e refl

-- where the first argument isn't taken
module _ (i : ℕ) (us ts : RawTerms) (t : RawTerm) (h : Climbs (cons t ts)) (n : numbers_of i us (cons t ts) ≡ numbers_of (suc i) us ts)
    (here : numbers_of i (insert_term t us) (cons t ts) ≡ i ∷ numbers_of (suc i) us ts)
    (later : (d : RawTerm) → same t d ≡ false → numbers_of i (insert_term d us) (cons t ts) ≡ numbers_of (suc i) (insert_term d us) ts) where
  abbrev zs : List (ℕ × RawTerm)
  zs = firsts (Some t) (free (suc i) (numbers_of (suc i) us ts) ts)

  climb : Climbs (cons t (terms (free (suc i) (numbers_of (suc i) us ts) ts)))
  climb = subst (λ rs. Climbs (cons t rs)) (sym (terms_free (suc i) us ts)) (each_left (λ v. stands_after t v ≡ false) us ts h.0, climbs_left us ts h.1)

  behind_it : EachOf (GoesOn (suc i) us ts) zs → EachOf (GoesOn i us (cons t ts)) zs
  behind_it r =
      each_with {P = GoesOn (suc i) us ts} {Q = IsAbove t} {R = GoesOn i us (cons t ts)} zs (λ z g a. ap (put z.0) n ∙ g ∙ sym (later z.1 a.1)) r
      (above t (free (suc i) (numbers_of (suc i) us ts) ts) climb)

  free_first : (o : Option RawTerm) → EachOf (GoesOn (suc i) us ts) zs → EachOf (GoesOn i us (cons t ts)) (firsts o (free i (numbers_of i us (cons t ts)) (cons t ts)))
  free_first o r =
      subst (λ xs. EachOf (GoesOn i us (cons t ts)) (firsts o xs)) (sym (ap (λ ks. free i ks (cons t ts)) n ∙ free_left i us ts t))
      (by_test (is_again o t) (behind_it r))
    where
      by_test : (b : Bool) → EachOf (GoesOn i us (cons t ts)) zs → EachOf (GoesOn i us (cons t ts)) (cond b zs ((i, t) ∷ zs))
      by_test true r = r
      by_test false r = (ap (put i) n ∙ put_first i us ts ∙ sym here, r)

-- other terms are no first one
not_back : (t d : RawTerm) → same t d ≡ false → same d t ≡ false
not_back t d h = by_test (same d t) refl
  where
    by_test : (b : Bool) → same d t ≡ b → b ≡ false
    by_test true e = absurd (both_ways _ h (same-equal t d (sym (same_term d t e))))
    by_test false e = refl

-- what lies within a list in order begins with no less
least_within : (u : RawTerm) (us : RawTerms) (t : RawTerm) (ts : RawTerms) → Climbs (cons t ts) → is_within (cons u us) ts ≡ true → stands_after t u ≡ false
least_within u us t nil h w = absurd (both_ways _ refl w)
least_within u us t (cons v vs) h w = by_test (same u v) refl w (least_within u us t vs (h.0.1, h.1.1))
  where
    by_test : (b : Bool) → same u v ≡ b → cond b (is_within us vs) (is_within (cons u us) vs) ≡ true → (is_within (cons u us) vs ≡ true → stands_after t u ≡ false) → stands_after t u ≡ false
    by_test true e w r = subst (λ x. stands_after t x ≡ false) (sym (same_term u v e)) h.0.0
    by_test false e w r = r w

-- where it is
module _ (i : ℕ) (t : RawTerm) (us ts : RawTerms) (cu : Climbs (cons t us)) (ct : Climbs (cons t ts)) where
  own : same t t ≡ true
  own = same_itself t

  numbers_are : numbers_of i (cons t us) (cons t ts) ≡ i ∷ numbers_of (suc i) us ts
  numbers_are = rw own refl

  grown : (d : RawTerm) → stands_after t d ≡ false → numbers_of i (insert_term d (cons t us)) (cons t ts) ≡ i ∷ numbers_of (suc i) (insert_term d us) ts
  grown d l = by_test (stands_after d t) refl
    where
      by_test : (b : Bool) → stands_after d t ≡ b → numbers_of i (cond b (cons t (insert_term d us)) (cons d (cons t us))) (cons t ts) ≡ i ∷ numbers_of (suc i) (insert_term d us) ts
      by_test true e = rw own refl
      by_test false e =
          let w : t ≡ d = after-antisym t d l e in
          let first : insert_term d us ≡ cons t us = ap (λ x. insert_term x us) (sym w) ∙ insert_first t us cu.0 in
          ap (λ x. numbers_of i (cons x (cons t us)) (cons t ts)) (sym w) ∙ rw own (ap (λ rs. i ∷ numbers_of (suc i) rs ts) (sym first))

  taken_first : (o : Option RawTerm) → EachOf (GoesOn (suc i) us ts) (firsts o (free (suc i) (numbers_of (suc i) us ts) ts))
      → EachOf (GoesOn i (cons t us) (cons t ts)) (firsts o (free i (numbers_of i (cons t us) (cons t ts)) (cons t ts)))
  taken_first o r =
      let zs : List (ℕ × RawTerm) = free (suc i) (numbers_of (suc i) us ts) ts in
      let there : EachOf (IsFrom (suc i) (λ v. stands_after t v ≡ false)) (firsts o zs) = each_first (IsFrom (suc i) (λ v. stands_after t v ≡ false)) o zs (each_free (λ v. stands_after t v ≡ false) (suc i) (numbers_of (suc i) us ts) ts ct.0) in
      subst (λ xs. EachOf (GoesOn i (cons t us) (cons t ts)) (firsts o xs)) (sym (ap (λ ks. free i ks (cons t ts)) numbers_are ∙ free_taken i (numbers_of (suc i) us ts) t ts))
      (each_with {P = GoesOn (suc i) us ts} {Q = IsFrom (suc i) (λ v. stands_after t v ≡ false)} {R = GoesOn i (cons t us) (cons t ts)} (firsts o zs)
      (λ z g a. (let l = a.0 in ap (put z.0) numbers_are ∙ put_behind i z.0 (numbers_of (suc i) us ts) (omega (arith, l)) ∙ ap (λ ks. i ∷ ks) g ∙ sym (grown z.1 a.1))) r there)

pub goes_on : (o : Option RawTerm) (i : ℕ) (us ts : RawTerms) → Climbs us → Climbs ts → is_within us ts ≡ true → EachOf (GoesOn i us ts) (firsts o (free i (numbers_of i us ts) ts))
goes_on o i us nil cu ct w = tt
goes_on o i nil (cons t ts) cu ct w = free_first i nil ts t ct refl here later o (goes_on (Some t) (suc i) nil ts tt ct.1 refl)
  where
    here : numbers_of i (cons t nil) (cons t ts) ≡ i ∷ []
    here = rw (same_itself t) refl

    later : (d : RawTerm) → same t d ≡ false → numbers_of i (cons d nil) (cons t ts) ≡ numbers_of (suc i) (cons d nil) ts
    later d n = rw (not_back t d n) refl
goes_on o i (cons u us) (cons t ts) cu ct w = by_test (same u t) refl w (goes_on o (suc i) us ts cu.1 ct.1) (goes_on (Some t) (suc i) (cons u us) ts cu ct.1)
  where
    by_test : (b : Bool) → same u t ≡ b → cond b (is_within us ts) (is_within (cons u us) ts) ≡ true
        → (is_within us ts ≡ true → EachOf (GoesOn (suc i) us ts) (firsts o (free (suc i) (numbers_of (suc i) us ts) ts)))
        → (is_within (cons u us) ts ≡ true → EachOf (GoesOn (suc i) (cons u us) ts) (firsts (Some t) (free (suc i) (numbers_of (suc i) (cons u us) ts) ts)))
        → EachOf (GoesOn i (cons u us) (cons t ts)) (firsts o (free i (numbers_of i (cons u us) (cons t ts)) (cons t ts)))
    by_test true e w r d =
        let k : t ≡ u = sym (same_term u t e) in
        subst (λ x. EachOf (GoesOn i (cons x us) (cons t ts)) (firsts o (free i (numbers_of i (cons x us) (cons t ts)) (cons t ts)))) k
        (taken_first i t us ts (subst (λ x. Climbs (cons x us)) (sym k) cu) ct o (r w))
    by_test false e w r d = free_first i (cons u us) ts t ct (skipped e) here later o (d w)
      where
        skipped : same u t ≡ false → numbers_of i (cons u us) (cons t ts) ≡ numbers_of (suc i) (cons u us) ts
        skipped e = rw e refl

        low : stands_after t u ≡ false
        low = least_within u us t ts ct w

        here : numbers_of i (insert_term t (cons u us)) (cons t ts) ≡ i ∷ numbers_of (suc i) (cons u us) ts
        here = rw (low, same_itself t) refl

        later : (d : RawTerm) → same t d ≡ false → numbers_of i (insert_term d (cons u us)) (cons t ts) ≡ numbers_of (suc i) (insert_term d (cons u us)) ts
        later d n = of (stands_after d u)
          where
            of : (b : Bool) → numbers_of i (cond b (cons u (insert_term d us)) (cons d (cons u us))) (cons t ts) ≡ numbers_of (suc i) (cond b (cons u (insert_term d us)) (cons d (cons u us))) ts
            of true = rw e refl
            of false = rw (not_back t d n) refl
