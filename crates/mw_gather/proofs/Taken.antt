-- Terms that are taken out of a list one after another, from the left, have numbers that choose them.
use Rattle.std.specs.Prelude.{◌≡◌, ◌≤◌, ◌<◌, ◌+◌, ◌-◌, ℕ, zero, suc, List, [], ◌∷◌, ◌++◌, length, Bool, true, false, cond, nat_eq, Some, slice_get, take, refl}
use Rattle.std.specs.List.{remove}
use Rattle.std.proofs.Common.{arith, sym, subst, ap, ◌∙◌, append_assoc, append-nil}
use Rattle.std.proofs.lemmas.Bool.{eq-eqb, eqb-true, eqb-false}
use Rattle.mw_logic.specs.Term.{RawTerm, RawTerms, nil, cons, join}
use Rattle.mw_logic.specs.Terms.{terms_of, front, skip}
use Rattle.mw_logic.specs.Parts.{number_of_terms}
use Rattle.mw_logic.specs.TermOrder.{stands_after, sorted_terms}
use Rattle.mw_logic.proofs.Canonical.{Each}
use Rattle.mw_logic.proofs.SortLaws.{join-nil, join_assoc}
use Rattle.mw_logic.proofs.SortedLists.{Climbs, climbs, sorted_terms-climbing}
use Rattle.mw_multiset.proofs.Together.{terms-append}
use Rattle.std.proofs.lemmas.List.{take_more, take_all}
use Rattle.std.proofs.lemmas.Option.{slice_get_within}
use Rattle.std.proofs.Common.{get_or}
use Rattle.mw_arguments.specs.Places.{chosen, others, Rise}
use Rattle.mw_gather.specs.Gatherings.{IsTakingOut}

skip-more : (n m : ℕ) (ts : RawTerms) → skip (n + m) ts ≡ skip m (skip n ts)
skip-more zero m ts = ap (λ k. skip k ts) (omega arith)
skip-more (suc n) m nil = nothing (suc n + m) ∙ sym (nothing m)
  where
    nothing : (k : ℕ) → skip k nil ≡ nil
    nothing zero = refl
    nothing (suc k) = refl
skip-more (suc n) m (cons t ts) = ap (λ k. skip k (cons t ts)) step ∙ skip-more n m ts
  where
    step : suc n + m ≡ suc (n + m)
    step = omega arith

front-more : (n m : ℕ) (ts : RawTerms) → front (n + m) ts ≡ join (front n ts) (front m (skip n ts))
front-more zero m ts = ap (λ k. front k ts) (omega arith)
front-more (suc n) m nil = nothing (suc n + m) ∙ sym (nothing m)
  where
    nothing : (k : ℕ) → front k nil ≡ nil
    nothing zero = refl
    nothing (suc k) = refl
front-more (suc n) m (cons t ts) = ap (λ k. front k (cons t ts)) step ∙ ap (cons t) (front-more n m ts)
  where
    step : suc n + m ≡ suc (n + m)
    step = omega arith

apart : (i k : ℕ) → i < k → nat_eq i k ≡ false
apart i k h = by_test (nat_eq i k) refl
  where
    by_test : (b : Bool) → nat_eq i k ≡ b → b ≡ false
    by_test false e = refl
    by_test true e = let q : i ≡ k = eqb-true i k e in absurd (omega (arith, h, q))

-- the number of what stands behind m others
choose_at : (m i k : ℕ) (ks : List ℕ) (zs : RawTerms) (x : RawTerm) (rest : RawTerms) → k ≡ i + m → skip m zs ≡ cons x rest → (chosen i (k ∷ ks) zs ≡ cons x (chosen (suc k) ks rest)) × (others i (k ∷ ks) zs ≡ join (front m zs) (others (suc k) ks rest))
choose_at zero i k ks nil x rest e s = cc
choose_at zero i k ks (cons z zs) x rest e s =
    let w : i ≡ k = omega (arith, e) in
    let a : z ≡ x = cc in
    let b : zs ≡ rest = cc in
    let t : nat_eq i k ≡ true = eq-eqb i k w in (
      ap (λ c. cond c (cons z (chosen (suc i) ks zs)) (chosen (suc i) (k ∷ ks) zs)) t ∙ ap (λ y. cons y (chosen (suc i) ks zs)) a ∙ ap (λ j. cons x (chosen (suc j) ks zs)) w ∙ ap (λ ys. cons x (chosen (suc k) ks ys)) b,
      ap (λ c. cond c (others (suc i) ks zs) (cons z (others (suc i) (k ∷ ks) zs))) t ∙ ap (λ j. others (suc j) ks zs) w ∙ ap (others (suc k) ks) b,
    )
choose_at (suc m) i k ks nil x rest e s = cc
choose_at (suc m) i k ks (cons z zs) x rest e s =
    let t : nat_eq i k ≡ false = apart i k (omega (arith, e)) in
    let (a, b) = choose_at m (suc i) k ks zs x rest (omega (arith, e)) s in (
      ap (λ c. cond c (cons z (chosen (suc i) ks zs)) (chosen (suc i) (k ∷ ks) zs)) t ∙ a,
      ap (λ c. cond c (others (suc i) ks zs) (cons z (others (suc i) (k ∷ ks) zs))) t ∙ ap (cons z) b,
    )

skip_number : (n : ℕ) (ts : RawTerms) (x : RawTerm) (rest : RawTerms) → skip n ts ≡ cons x rest → n < number_of_terms ts
skip_number zero nil x rest e = cc
skip_number zero (cons t ts) x rest e = omega arith
skip_number (suc n) nil x rest e = cc
skip_number (suc n) (cons t ts) x rest e = let h = skip_number n ts x rest e in omega (arith, h)

pub taking_begins : (ts : RawTerms) → IsTakingOut ts nil [] 0 ts
taking_begins ts = record { tail = refl; size = omega arith; numbers = λ ks us r c. (r, c, refl) }

length-push : (ks : List ℕ) (k : ℕ) → length (ks ++ k ∷ []) ≡ suc (length ks)
length-push [] k = refl
length-push (j ∷ ks) k = ap suc (length-push ks k)

pub taking_step : (ts done : RawTerms) (found : List ℕ) (from : ℕ) (es : RawTerms) (at : ℕ) (x : RawTerm) (next : RawTerms) (k : ℕ) → IsTakingOut ts done found from es → from ≤ at → skip at es ≡ cons x (skip (suc at) es)
    → front at next ≡ front at es → skip at next ≡ skip (suc at) es → number_of_terms next + 1 ≡ number_of_terms es → k ≡ suc (at + length found) → IsTakingOut ts (join done (cons x nil)) (found ++ k ∷ []) at next
taking_step ts done found from es at x next k h l here same_front same_tail n number =
    let j : ℕ = length found in
    let m : ℕ = at - from in
    let e : at ≡ from + m = omega (arith, l) in
    let longer : length (found ++ k ∷ []) ≡ suc j = length-push found k in
    let there : skip (at + j) ts ≡ skip at es =
    let apart_by : at + j ≡ (from + j) + m = omega (arith, e) in
    ap (λ i. skip i ts) apart_by ∙ skip-more (from + j) m ts ∙ ap (skip m) (sym h.tail) ∙ sym (skip-more from m es) ∙ ap (λ i. skip i es) (sym e) in
    let after : skip (at + suc j) ts ≡ skip (suc at) es =
    let up : at + suc j ≡ (at + j) + 1 = omega arith in
    let over : at + 1 ≡ suc at = omega arith in
    ap (λ i. skip i ts) up ∙ skip-more (at + j) 1 ts ∙ ap (skip 1) there ∙ sym (skip-more at 1 es) ∙ ap (λ i. skip i es) over in
    let size = h.size in
    record {
      tail = same_tail ∙ sym after ∙ ap (λ i. skip (at + i) ts) (sym longer);
      size = omega (arith, size, n, longer);
      numbers = λ ks us r c. at_numbers ks us m e longer there after (subst (λ i. Rise (suc (at + i)) (suc (number_of_terms ts)) ks) longer r) (subst (λ i. chosen (suc (at + i)) ks (skip (at + i) ts) ≡ us) longer c);
    }
  where
    at_numbers : (ks : List ℕ) (us : RawTerms) (m : ℕ) → at ≡ from + m → length (found ++ k ∷ []) ≡ suc (length found) → skip (at + length found) ts ≡ skip at es → skip (at + suc (length found)) ts ≡ skip (suc at) es
        → Rise (suc (at + suc (length found))) (suc (number_of_terms ts)) ks → chosen (suc (at + suc (length found))) ks (skip (at + suc (length found)) ts) ≡ us
        → Rise 1 (suc (number_of_terms ts)) ((found ++ k ∷ []) ++ ks) × (chosen 1 ((found ++ k ∷ []) ++ ks) ts ≡ join (join done (cons x nil)) us)
        × (others 1 ((found ++ k ∷ []) ++ ks) ts ≡ join (front at next) (others (suc (at + length (found ++ k ∷ []))) ks (skip (at + length (found ++ k ∷ [])) ts)))
    at_numbers ks us m e longer there after r c =
        let j : ℕ = length found in
        let zs : RawTerms = skip (from + j) ts in
        let rest : RawTerms = skip (at + suc j) ts in
        let q : k ≡ suc (from + j) + m = omega (arith, number, e) in
        let apart_by : (from + j) + m ≡ at + j = omega (arith, e) in
        let here_zs : skip m zs ≡ cons x rest = sym (skip-more (from + j) m ts) ∙ ap (λ i. skip i ts) apart_by ∙ there ∙ here ∙ ap (cons x) (sym after) in
        let p : k ≡ at + suc j = omega (arith, number) in
        let (a, b) = choose_at m (suc (from + j)) k ks zs x rest q here_zs in
        let low : at + j < number_of_terms ts = skip_number (at + j) ts x (skip (suc at) es) (there ∙ here) in
        let rise : Rise (suc (from + j)) (suc (number_of_terms ts)) (k ∷ ks) = (omega (arith, q), omega (arith, number, low), subst (λ i. Rise (suc i) (suc (number_of_terms ts)) ks) (sym p) r) in
        let chooses : chosen (suc (from + j)) (k ∷ ks) zs ≡ cons x us = a ∙ ap (cons x) (ap (λ i. chosen (suc i) ks rest) p ∙ c) in
        let (u, v, w) = h.numbers (k ∷ ks) (cons x us) rise chooses in
        let all : (found ++ k ∷ []) ++ ks ≡ found ++ (k ∷ ks) = append_assoc found (k ∷ []) ks in
        let fronts : join (front from es) (front m zs) ≡ front at next =
        ap (λ ys. join (front from es) (front m ys)) (sym h.tail) ∙ sym (front-more from m es) ∙ ap (λ i. front i es) (sym e) ∙ sym same_front in (
          subst (Rise 1 (suc (number_of_terms ts))) (sym all) u,
          ap (λ ns. chosen 1 ns ts) all ∙ v ∙ sym (join_assoc done (cons x nil) us),
          ap (λ ns. others 1 ns ts) all ∙ w ∙ ap (join (front from es)) b ∙ sym (join_assoc (front from es) (front m zs) (others (suc k) ks rest)) ∙ ap (λ ys. join ys (others (suc k) ks rest)) fronts
              ∙ ap (λ i. join (front at next) (others (suc i) ks rest)) p ∙ ap (λ i. join (front at next) (others (suc (at + i)) ks (skip (at + i) ts))) (sym longer),
        )

front-skip : (n : ℕ) (ts : RawTerms) → join (front n ts) (skip n ts) ≡ ts
front-skip zero ts = refl
front-skip (suc n) nil = refl
front-skip (suc n) (cons t ts) = ap (cons t) (front-skip n ts)

pub taking_ends : (ts done : RawTerms) (found : List ℕ) (from : ℕ) (es : RawTerms) → IsTakingOut ts done found from es → Rise 1 (suc (number_of_terms ts)) found × (chosen 1 found ts ≡ done) × (es ≡ others 1 found ts)
taking_ends ts done found from es h =
    let (a, b, c) = h.numbers [] nil tt refl in (
      subst (Rise 1 (suc (number_of_terms ts))) (append-nil found) a,
      ap (λ ns. chosen 1 ns ts) (sym (append-nil found)) ∙ b ∙ join-nil done,
      sym (front-skip from es) ∙ ap (join (front from es)) h.tail ∙ sym c ∙ ap (λ ns. others 1 ns ts) (append-nil found),
    )

-- lists: what stands at an index, and the list without it
pub here_there : (xs : List RawTerm) (at : ℕ) (x : RawTerm) → slice_get xs at ≡ Some x → skip at (terms_of xs) ≡ cons x (skip (suc at) (terms_of xs))
here_there [] zero x e = cc
here_there [] (suc at) x e = cc
here_there (y ∷ ys) zero x e = let q : y ≡ x = cc e in ap (λ z. cons z (terms_of ys)) q
here_there (y ∷ ys) (suc at) x e = here_there ys at x e

pub without_there : (xs : List RawTerm) (at : ℕ) → at < length xs → (front at (terms_of (remove xs at)) ≡ front at (terms_of xs)) × (skip at (terms_of (remove xs at)) ≡ skip (suc at) (terms_of xs)) × (number_of_terms (terms_of (remove xs at)) + 1 ≡ number_of_terms (terms_of xs))
without_there [] at h = absurd (omega (arith, h))
without_there (y ∷ ys) zero h = (refl, refl, omega arith)
without_there (y ∷ ys) (suc at) h = let (a, b, c) = without_there ys at (omega (arith, h)) in (ap (cons y) a, b, omega (arith, c))

pub number_list : (xs : List RawTerm) → number_of_terms (terms_of xs) ≡ length xs
number_list [] = refl
number_list (x ∷ xs) = ap suc (number_list xs)

-- as many are chosen and left as there are
chosen_left : (i : ℕ) (ks : List ℕ) (ts : RawTerms) → Rise i (i + number_of_terms ts) ks → number_of_terms (chosen i ks ts) + number_of_terms (others i ks ts) ≡ number_of_terms ts
chosen_left i [] ts r = omega arith
chosen_left i (k ∷ ks) nil r = let l = r.0 in let m = r.1 in absurd (omega (arith, l, m))
chosen_left i (k ∷ ks) (cons t ts) r = by_test (nat_eq i k) refl (λ q. chosen_left (suc i) ks ts q) (λ q. chosen_left (suc i) (k ∷ ks) ts q)
  where
    e : i + suc (number_of_terms ts) ≡ suc i + number_of_terms ts
    e = omega arith

    higher : nat_eq i k ≡ false → suc i ≤ k
    higher q = let l = r.0 in let d : i ≡ k → ⊥ = eqb-false i k q in omega (arith, l, d)

    by_test : (m : Bool) → nat_eq i k ≡ m
        → (Rise (suc i) (suc i + number_of_terms ts) ks → number_of_terms (chosen (suc i) ks ts) + number_of_terms (others (suc i) ks ts) ≡ number_of_terms ts)
        → (Rise (suc i) (suc i + number_of_terms ts) (k ∷ ks) → number_of_terms (chosen (suc i) (k ∷ ks) ts) + number_of_terms (others (suc i) (k ∷ ks) ts) ≡ number_of_terms ts)
        → number_of_terms (cond m (cons t (chosen (suc i) ks ts)) (chosen (suc i) (k ∷ ks) ts)) + number_of_terms (cond m (others (suc i) ks ts) (cons t (others (suc i) (k ∷ ks) ts))) ≡ suc (number_of_terms ts)
    by_test true q x y =
        let w : i ≡ k = eqb-true i k q in
        let a = x (subst (λ n. Rise (suc i) n ks) e (subst (λ j. Rise (suc j) (i + suc (number_of_terms ts)) ks) (sym w) r.2)) in
        omega (arith, a)
    by_test false q x y = let a = y (subst (λ n. Rise (suc i) n (k ∷ ks)) e (higher q, r.1, r.2)) in omega (arith, a)

pub counted_out : (es : List RawTerm) (ks : List ℕ) (left some : List RawTerm) → Rise 1 (suc (number_of_terms (terms_of es))) ks → chosen 1 ks (terms_of es) ≡ terms_of some → terms_of left ≡ others 1 ks (terms_of es) → length some + length left ≡ length es
counted_out es ks left some r c o =
    let q : suc (number_of_terms (terms_of es)) ≡ 1 + number_of_terms (terms_of es) = omega arith in
    let a = chosen_left 1 ks (terms_of es) (subst (λ n. Rise 1 n ks) q r) in
    let b : number_of_terms (chosen 1 ks (terms_of es)) ≡ length some = ap number_of_terms c ∙ number_list some in
    let d : number_of_terms (others 1 ks (terms_of es)) ≡ length left = ap number_of_terms (sym o) ∙ number_list left in
    let e = number_list es in
    omega (arith, a, b, d, e)

-- one more is taken out
pub out_step : (old some : List RawTerm) (i : ℕ) (x : RawTerm) (numbers : List ℕ) (from : ℕ) (items : List RawTerm) (at k : ℕ) (pushed : List ℕ) (removed : List RawTerm) → IsTakingOut (terms_of old) (terms_of (take i some)) numbers from (terms_of items)
    → i < length some → x ≡ get_or some i x → from ≤ at → slice_get items at ≡ Some x → k ≡ suc (at + length numbers) → pushed ≡ numbers ++ k ∷ [] → removed ≡ remove items at
    → IsTakingOut (terms_of old) (terms_of (take (i + 1) some)) pushed at (terms_of removed)
out_step old some i x numbers from items at k pushed removed h l is low there number push out =
    let (a, b, n) = without_there items at (slice_get_within items at x there) in
    let r : IsTakingOut (terms_of old) (join (terms_of (take i some)) (cons x nil)) (numbers ++ k ∷ []) at (terms_of (remove items at)) =
    taking_step (terms_of old) (terms_of (take i some)) numbers from (terms_of items) at x (terms_of (remove items at)) k h low (here_there items at x there) a b n number in
    let done : terms_of (take (i + 1) some) ≡ join (terms_of (take i some)) (cons x nil) =
    ap terms_of (take_more some i x l ∙ ap (λ y. take i some ++ y ∷ []) (sym is)) ∙ terms-append (take i some) (x ∷ []) in
    subst (λ ys. IsTakingOut (terms_of old) (terms_of (take (i + 1) some)) pushed at (terms_of ys)) (sym out)
    (subst (λ ns. IsTakingOut (terms_of old) (terms_of (take (i + 1) some)) ns at (terms_of (remove items at))) (sym push)
    (subst (λ ts. IsTakingOut (terms_of old) ts (numbers ++ k ∷ []) at (terms_of (remove items at))) (sym done) r))

-- all are
pub out_ends : (old some : List RawTerm) (i : ℕ) (numbers : List ℕ) (from : ℕ) (items : List RawTerm) → IsTakingOut (terms_of old) (terms_of (take i some)) numbers from (terms_of items) → length some ≤ i
    → Rise 1 (suc (number_of_terms (terms_of old))) numbers × (chosen 1 numbers (terms_of old) ≡ terms_of some) × (terms_of items ≡ others 1 numbers (terms_of old))
out_ends old some i numbers from items h l =
    let (a, b, c) = taking_ends (terms_of old) (terms_of (take i some)) numbers from (terms_of items) h in (a, b ∙ ap terms_of (take_all i some l), c)

-- what is left of a list in order is in order
others_each : (P : RawTerm → Type 0) (i : ℕ) (ks : List ℕ) (ts : RawTerms) → Each P ts → Each P (others i ks ts)
others_each P i [] ts h = h
others_each P i (k ∷ ks) nil h = tt
others_each P i (k ∷ ks) (cons t ts) h = by_test (nat_eq i k) (others_each P (suc i) ks ts h.1) (others_each P (suc i) (k ∷ ks) ts h.1)
  where
    by_test : (b : Bool) → Each P (others (suc i) ks ts) → Each P (others (suc i) (k ∷ ks) ts) → Each P (cond b (others (suc i) ks ts) (cons t (others (suc i) (k ∷ ks) ts)))
    by_test true a b = a
    by_test false a b = (h.0, b)

others_climb : (i : ℕ) (ks : List ℕ) (ts : RawTerms) → Climbs ts → Climbs (others i ks ts)
others_climb i [] ts h = h
others_climb i (k ∷ ks) nil h = tt
others_climb i (k ∷ ks) (cons t ts) h = by_test (nat_eq i k) (others_climb (suc i) ks ts h.1) (others_climb (suc i) (k ∷ ks) ts h.1)
  where
    by_test : (b : Bool) → Climbs (others (suc i) ks ts) → Climbs (others (suc i) (k ∷ ks) ts) → Climbs (cond b (others (suc i) ks ts) (cons t (others (suc i) (k ∷ ks) ts)))
    by_test true a b = a
    by_test false a b = (others_each (λ u. stands_after t u ≡ false) (suc i) (k ∷ ks) ts h.0, b)

pub left_in_order : (es left : List RawTerm) (ks : List ℕ) → sorted_terms (terms_of es) ≡ terms_of es → terms_of left ≡ others 1 ks (terms_of es) → sorted_terms (terms_of left) ≡ terms_of left
left_in_order es left ks o e = ap sorted_terms e ∙ sorted_terms-climbing (others 1 ks (terms_of es)) (others_climb 1 ks (terms_of es) (climbs (terms_of es) o)) ∙ sym e
