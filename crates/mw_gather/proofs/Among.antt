-- Terms that stand among others in order are found from the left, and are still there when one was taken out.
use Rattle.std.specs.Prelude.{◌≡◌, ◌≤◌, ◌<◌, ◌+◌, ◌-◌, ℕ, zero, suc, List, [], ◌∷◌, length, get_or, Bool, true, false, nat_eq, cond, Some, slice_get, drop, IsPermutation, refl}
use Rattle.std.specs.Ordering.{is_gt}
use Rattle.std.specs.List.{remove}
use Rattle.std.specs.List.Sorted.{IsPartitionedBy, IsPartitionPoint}
use Rattle.std.proofs.Common.{inl, inr, arith, sym, subst, ap, ◌∙◌, ◌++◌, drop-cons, add-one}
use Rattle.std.proofs.lemmas.Option.{slice_get_within, get_or_from_slice_get, slice_get-get_or}
use Rattle.mw_logic.specs.Term.{RawTerm, cons}
use Rattle.mw_logic.specs.Terms.{terms_of}
use Rattle.mw_logic.specs.TermOrder.{compare_terms, stands_after, sorted_terms}
use Rattle.mw_logic.proofs.OrderLaws.{after-trans, after-antisym, not_after_itself}
use Rattle.mw_logic.proofs.Canonical.{Each}
use Rattle.mw_logic.proofs.SortedLists.{Climbs, climbs, sorted_terms-climbing, sorted_terms-permutation}
use Rattle.mw_arguments.specs.Places.{chosen, numbers_of}
use Rattle.mw_arguments.proofs.Places.{numbers_choose}
use Rattle.mw_multiset.proofs.Together.{terms-append}
use Rattle.mw_gather.specs.Gatherings.{StandAmong}

-- the first of them stands from here on, and the others behind it
pub among_found : (x : RawTerm) (us es : List RawTerm) (from : ℕ) → StandAmong (x ∷ us) (drop from es) → (at : ℕ) × (from ≤ at) × (slice_get es at ≡ Some x) × StandAmong us (drop (suc at) es)
among_found x us [] zero h = elim h [ ]
among_found x us [] (suc n) h = elim h [ ]
among_found x us (e ∷ es) zero (inl h) = (0, omega arith, ap Some h.0, h.1)
among_found x us (e ∷ es) zero (inr h) = let (at, l, s, r) = among_found x us es 0 h in (suc at, omega arith, s, r)
among_found x us (e ∷ es) (suc n) h = let (at, l, s, r) = among_found x us es n h in (suc at, omega (arith, l), s, r)

more_among : (us : List RawTerm) (t : RawTerm) (ts : List RawTerm) → StandAmong us ts → StandAmong us (t ∷ ts)
more_among [] t ts h = tt
more_among (u ∷ us) t ts h = inr h

all_among : (us ts : List RawTerm) (n : ℕ) → StandAmong us (drop n ts) → StandAmong us ts
all_among us ts zero h = h
all_among us [] (suc n) h = h
all_among us (t ∷ ts) (suc n) h = more_among us t ts (all_among us ts n h)

-- what stands behind an index stands behind each lower one
pub among_earlier : (us ts : List RawTerm) (n m : ℕ) → n ≤ m → StandAmong us (drop m ts) → StandAmong us (drop n ts)
among_earlier us ts zero m l h = all_among us ts m h
among_earlier us ts (suc n) zero l h = absurd (omega (arith, l))
among_earlier us [] (suc n) (suc m) l h = h
among_earlier us (t ∷ ts) (suc n) (suc m) l h = among_earlier us ts n m (omega (arith, l)) h

-- what is chosen stands there
pub among_chosen : (i : ℕ) (ks : List ℕ) (us ts : List RawTerm) → chosen i ks (terms_of ts) ≡ terms_of us → StandAmong us ts
among_chosen i ks [] ts e = tt
among_chosen i [] (u ∷ us) ts e = cc
among_chosen i (k ∷ ks) (u ∷ us) [] e = cc
among_chosen i (k ∷ ks) (u ∷ us) (t ∷ ts) e = by_test (nat_eq i k) e (among_chosen (suc i) ks us ts) (among_chosen (suc i) (k ∷ ks) (u ∷ us) ts)
  where
    by_test : (b : Bool) → cond b (cons t (chosen (suc i) ks (terms_of ts))) (chosen (suc i) (k ∷ ks) (terms_of ts)) ≡ cons u (terms_of us)
        → (chosen (suc i) ks (terms_of ts) ≡ terms_of us → StandAmong us ts) → (chosen (suc i) (k ∷ ks) (terms_of ts) ≡ cons u (terms_of us) → StandAmong (u ∷ us) ts) → StandAmong (u ∷ us) (t ∷ ts)
    by_test true e x y = let p : t ≡ u = cc in let q : chosen (suc i) ks (terms_of ts) ≡ terms_of us = cc in inl (p, x q)
    by_test false e x y = inr (y e)

-- some of a list in order, which are in order too, stand there
pub among_permuted : (us ts rest : List RawTerm) → sorted_terms (terms_of us) ≡ terms_of us → sorted_terms (terms_of ts) ≡ terms_of ts → IsPermutation ts (us ++ rest) → StandAmong us ts
among_permuted us ts rest a b p =
    among_chosen 1 (numbers_of 1 (terms_of us) (terms_of ts)) us ts (numbers_choose 1 (terms_of us) (terms_of ts) (climbs (terms_of us) a) (climbs (terms_of ts) b) (record {
      others = terms_of rest;
      whole = ap sorted_terms (sym (terms-append us rest)) ∙ sym (sorted_terms-permutation ts (us ++ rest) p) ∙ b;
    }))

-- a list without one
pub drop_removed : (xs : List RawTerm) (at : ℕ) → at < length xs → drop at (remove xs at) ≡ drop (suc at) xs
drop_removed [] at h = absurd (omega (arith, h))
drop_removed (x ∷ xs) zero h = refl
drop_removed (x ∷ xs) (suc at) h = drop_removed xs at (omega (arith, h))

each_removed : (P : RawTerm → Type 0) (xs : List RawTerm) (at : ℕ) → at < length xs → Each P (terms_of xs) → Each P (terms_of (remove xs at))
each_removed P [] at l h = absurd (omega (arith, l))
each_removed P (x ∷ xs) zero l h = h.1
each_removed P (x ∷ xs) (suc at) l h = (h.0, each_removed P xs at (omega (arith, l)) h.1)

climbs_removed : (xs : List RawTerm) (at : ℕ) → at < length xs → Climbs (terms_of xs) → Climbs (terms_of (remove xs at))
climbs_removed [] at l h = absurd (omega (arith, l))
climbs_removed (x ∷ xs) zero l h = h.1
climbs_removed (x ∷ xs) (suc at) l h = (each_removed (λ u. stands_after x u ≡ false) xs at (omega (arith, l)) h.0, climbs_removed xs at (omega (arith, l)) h.1)

pub order_removed : (xs : List RawTerm) (at : ℕ) → at < length xs → sorted_terms (terms_of xs) ≡ terms_of xs → sorted_terms (terms_of (remove xs at)) ≡ terms_of (remove xs at)
order_removed xs at l h = sorted_terms-climbing (terms_of (remove xs at)) (climbs_removed xs at l (climbs (terms_of xs) h))

-- the search
climbs_drop : (xs : List RawTerm) (n : ℕ) → Climbs (terms_of xs) → Climbs (terms_of (drop n xs))
climbs_drop xs zero h = h
climbs_drop [] (suc n) h = tt
climbs_drop (x ∷ xs) (suc n) h = climbs_drop xs n h.1

each_at : (P : RawTerm → Type 0) (xs : List RawTerm) (k : ℕ) (d : RawTerm) → Each P (terms_of xs) → k < length xs → P (get_or xs k d)
each_at P [] k d h l = absurd (omega (arith, l))
each_at P (x ∷ xs) zero d h l = h.0
each_at P (x ∷ xs) (suc k) d h l = each_at P xs k d h.1 (omega (arith, l))

none_after : (xs : List RawTerm) (i j : ℕ) (d : RawTerm) → Climbs (terms_of xs) → i ≤ j → j < length xs → stands_after (get_or xs i d) (get_or xs j d) ≡ false
none_after [] i j d h l m = absurd (omega (arith, m))
none_after (x ∷ xs) zero zero d h l m = not_after_itself x
none_after (x ∷ xs) zero (suc j) d h l m = each_at (λ u. stands_after x u ≡ false) xs j d h.0 (omega (arith, m))
none_after (x ∷ xs) (suc i) zero d h l m = absurd (omega (arith, l))
none_after (x ∷ xs) (suc i) (suc j) d h l m = none_after xs i j d h.1 (omega (arith, l)) (omega (arith, m))

unfolded : (t u : RawTerm) (b : Bool) → is_gt (compare_terms t u) ≡ b → stands_after t u ≡ b
unfolding stands_after
unfolded t u b h = h

not_both : (b : Bool) → b ≡ false → b ≡ true → ⊥
not_both true p q = cc
not_both false p q = cc

abbrev pub IsBefore : RawTerm → RawTerm → Bool
IsBefore t u = is_gt (compare_terms t u)

pub is_divided : (t : RawTerm) (xs : List RawTerm) → Climbs (terms_of xs) → IsPartitionedBy (IsBefore t) xs
is_divided t xs o i j d l m h = by_test (is_gt (compare_terms t (get_or xs i d))) refl
  where
    by_test : (b : Bool) → is_gt (compare_terms t (get_or xs i d)) ≡ b → b ≡ true
    by_test true e = refl
    by_test false e =
        absurd (not_both _ (after-trans t (get_or xs i d) (get_or xs j d) (unfolded t (get_or xs i d) false e) (none_after xs i j d o l m)) (unfolded t (get_or xs j d) true h))

-- the first place of t
found_at : (t : RawTerm) (xs : List RawTerm) (i : ℕ) → Climbs (terms_of xs) → IsPartitionPoint (λ u. IsBefore t u ≡ true) (λ u. IsBefore t u ≡ false) xs i → (k : ℕ) → slice_get xs k ≡ Some t → (i ≤ k) × (slice_get xs i ≡ Some t)
found_at t xs i o p k s =
    let n : k < length xs = slice_get_within xs k t s in
    let here : get_or xs k t ≡ t = get_or_from_slice_get xs k t t s in
    let low : i ≤ k = not_higher (λ q. not_both (stands_after t t) (not_after_itself t) (subst (λ u. stands_after t u ≡ true) here (unfolded t (get_or xs k t) true (p.0 k t (omega arith) q)))) in
    let m : i < length xs = omega (arith, low, n) in
    let first : stands_after (get_or xs i t) t ≡ false = subst (λ u. stands_after (get_or xs i t) u ≡ false) here (none_after xs i k t o low n) in
    let second : stands_after t (get_or xs i t) ≡ false = unfolded t (get_or xs i t) false (p.1 i t (omega arith) m) in
    (low, slice_get-get_or xs i t m ∙ ap Some (after-antisym (get_or xs i t) t first second))
  where
    not_higher : (k < i → ⊥) → i ≤ k
    not_higher h = omega (arith, h)

get_dropped : (xs : List RawTerm) (n k : ℕ) → slice_get (drop n xs) k ≡ slice_get xs (n + k)
get_dropped xs zero k = ap (slice_get xs) (omega arith)
get_dropped [] (suc n) k = refl
get_dropped (x ∷ xs) (suc n) k = get_dropped xs n k ∙ ap (slice_get (x ∷ xs)) further
  where
    further : suc (n + k) ≡ suc n + k
    further = omega arith

pub order_dropped : (xs : List RawTerm) (n : ℕ) → sorted_terms (terms_of xs) ≡ terms_of xs → Climbs (terms_of (drop n xs))
order_dropped xs n o = climbs_drop xs n (climbs (terms_of xs) o)

pub place_found : (t : RawTerm) (xs : List RawTerm) (from i : ℕ) → sorted_terms (terms_of xs) ≡ terms_of xs → IsPartitionPoint (λ u. IsBefore t u ≡ true) (λ u. IsBefore t u ≡ false) (drop from xs) i
    → (at : ℕ) → from ≤ at → slice_get xs at ≡ Some t → (from + i ≤ at) × (slice_get xs (from + i) ≡ Some t) × (at < length xs)
place_found t xs from i o p at l s =
    let e : from + (at - from) ≡ at = omega (arith, l) in
    let there : slice_get (drop from xs) (at - from) ≡ Some t = get_dropped xs from (at - from) ∙ ap (slice_get xs) e ∙ s in
    let (low, here) = found_at t (drop from xs) i (order_dropped xs from o) p (at - from) there in
    (omega (arith, low, l), sym (get_dropped xs from i) ∙ here, slice_get_within xs at t s)

-- the next of them
pub among_next : (some es : List RawTerm) (i : ℕ) (x : RawTerm) (from : ℕ) → i < length some → x ≡ get_or some i x → StandAmong (drop i some) (drop from es)
    → (at : ℕ) × (from ≤ at) × (slice_get es at ≡ Some x) × StandAmong (drop (i + 1) some) (drop (suc at) es)
among_next some es i x from l e h =
    let next : drop i some ≡ x ∷ drop (i + 1) some = drop-cons some i x l ∙ rw (← e, add-one) refl in
    among_found x (drop (i + 1) some) es from (subst (λ ys. StandAmong ys (drop from es)) next h)

-- the others are still there once it is taken out
pub among_left : (some es : List RawTerm) (i : ℕ) (x : RawTerm) (from at : ℕ) (removed : List RawTerm) → i < length some → x ≡ get_or some i x → StandAmong (drop i some) (drop from es) → slice_get es at ≡ Some x
    → ((k : ℕ) → from ≤ k → slice_get es k ≡ Some x → at ≤ k) → removed ≡ remove es at → StandAmong (drop (i + 1) some) (drop at removed)
among_left some es i x from at removed l e h there first out =
    let (k, low, here, rest) = among_next some es i x from l e h in
    let m : suc at ≤ suc k = let n : at ≤ k = first k low here in omega (arith, n) in
    let same : drop at removed ≡ drop (suc at) es = ap (drop at) out ∙ drop_removed es at (slice_get_within es at x there) in
    subst (StandAmong (drop (i + 1) some)) (sym same) (among_earlier (drop (i + 1) some) es (suc at) (suc k) m rest)

-- what a search in a view of the list found
pub stands_there : (seen es : List RawTerm) (at : ℕ) (x : RawTerm) → seen ≡ es → slice_get seen at ≡ Some x → slice_get es at ≡ Some x
stands_there seen es at x e h = subst (λ xs. slice_get xs at ≡ Some x) e h

pub stands_within : (seen es : List RawTerm) (at : ℕ) (x : RawTerm) → seen ≡ es → slice_get seen at ≡ Some x → at < length es
stands_within seen es at x e h = slice_get_within es at x (stands_there seen es at x e h)
