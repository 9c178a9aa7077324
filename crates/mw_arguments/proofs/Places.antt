-- The arguments that rising numbers choose of a list in order are its parts, and each part is chosen by some numbers.
use Rattle.std.specs.Prelude.{◌≡◌, ◌⊎◌, ◌+◌, ℕ, suc, List, [], ◌∷◌, Bool, true, false, cond, nat_eq, refl}
use Rattle.std.proofs.Common.{inl, inr, ap, sym, subst, ◌∙◌, arith}
use Rattle.std.proofs.lemmas.Bool.{both_ways, eqb-true, eq-eqb}
use Rattle.mw_logic.specs.Term.{RawTerm, RawTerms, nil, cons, join}
use Rattle.mw_logic.specs.Parts.{Among, number_of_terms}
use Rattle.mw_logic.specs.TermOrder.{stands_after, insert_term, sorted_terms}
use Rattle.mw_logic.proofs.SortLaws.{sorted_terms-right, sorted_terms-idempotent, insert_term-comm}
use Rattle.mw_logic.proofs.OrderLaws.{after-antisym, not_after_itself}
use Rattle.mw_logic.proofs.SortedLists.{same_term, Climbs, climbs}
use Rattle.mw_logic.proofs.Canonical.{Each}
use Rattle.mw_logic.proofs.Elements.{taken, taken-insert}
use Rattle.mw_logic.proofs.Lifting.{Among-join}
use Rattle.mw_logic.proofs.Inside.{Among-insert}
use Rattle.mw_arguments.specs.Bags.{same}
use Rattle.mw_arguments.specs.Places.{chosen, others, Rise, numbers_of}
use Rattle.mw_arguments.proofs.Runs.{same-equal}
use Rattle.mw_arguments.proofs.Standing.{each_among, among_sorted, put_back, taken_head}

-- what is chosen and what is left are the whole, in order
behind_first : (t : RawTerm) (us vs : RawTerms) → sorted_terms (join us (cons t vs)) ≡ insert_term t (sorted_terms (join us vs))
behind_first t nil vs = refl
behind_first t (cons u us) vs = ap (insert_term u) (behind_first t us vs) ∙ insert_term-comm u t (sorted_terms (join us vs))

pub chosen_whole : (i : ℕ) (ks : List ℕ) (ts : RawTerms) → sorted_terms (join (chosen i ks ts) (others i ks ts)) ≡ sorted_terms ts
chosen_whole i [] ts = refl
chosen_whole i (k ∷ ks) nil = refl
chosen_whole i (k ∷ ks) (cons t ts) = by_test (nat_eq i k) (chosen_whole (suc i) ks ts) (chosen_whole (suc i) (k ∷ ks) ts)
  where
    by_test : (b : Bool) → sorted_terms (join (chosen (suc i) ks ts) (others (suc i) ks ts)) ≡ sorted_terms ts → sorted_terms (join (chosen (suc i) (k ∷ ks) ts) (others (suc i) (k ∷ ks) ts)) ≡ sorted_terms ts
        → sorted_terms (join (cond b (cons t (chosen (suc i) ks ts)) (chosen (suc i) (k ∷ ks) ts)) (cond b (others (suc i) ks ts) (cons t (others (suc i) (k ∷ ks) ts)))) ≡ insert_term t (sorted_terms ts)
    by_test true e d = ap (insert_term t) e
    by_test false e d = behind_first t (chosen (suc i) (k ∷ ks) ts) (others (suc i) (k ∷ ks) ts) ∙ ap (insert_term t) d

-- what is chosen of a list in order is in order
chosen_each : (P : RawTerm → Type 0) (i : ℕ) (ks : List ℕ) (ts : RawTerms) → Each P ts → Each P (chosen i ks ts)
chosen_each P i [] ts h = tt
chosen_each P i (k ∷ ks) nil h = tt
chosen_each P i (k ∷ ks) (cons t ts) h = by_test (nat_eq i k) (chosen_each P (suc i) ks ts h.1) (chosen_each P (suc i) (k ∷ ks) ts h.1)
  where
    by_test : (b : Bool) → Each P (chosen (suc i) ks ts) → Each P (chosen (suc i) (k ∷ ks) ts) → Each P (cond b (cons t (chosen (suc i) ks ts)) (chosen (suc i) (k ∷ ks) ts))
    by_test true a b = (h.0, a)
    by_test false a b = b

pub chosen_climbs : (i : ℕ) (ks : List ℕ) (ts : RawTerms) → Climbs ts → Climbs (chosen i ks ts)
chosen_climbs i [] ts h = tt
chosen_climbs i (k ∷ ks) nil h = tt
chosen_climbs i (k ∷ ks) (cons t ts) h = by_test (nat_eq i k) (chosen_climbs (suc i) ks ts h.1) (chosen_climbs (suc i) (k ∷ ks) ts h.1)
  where
    by_test : (b : Bool) → Climbs (chosen (suc i) ks ts) → Climbs (chosen (suc i) (k ∷ ks) ts) → Climbs (cond b (cons t (chosen (suc i) ks ts)) (chosen (suc i) (k ∷ ks) ts))
    by_test true a b = (chosen_each (λ u. stands_after t u ≡ false) (suc i) ks ts h.0, a)
    by_test false a b = b

-- the numbers of a part rise
pub numbers_rise : (i : ℕ) (us ts : RawTerms) → Rise i (i + number_of_terms ts) (numbers_of i us ts)
numbers_rise i nil ts = tt
numbers_rise i (cons u us) nil = tt
numbers_rise i (cons u us) (cons t ts) = by_test (same u t) (numbers_rise (suc i) us ts) (numbers_rise (suc i) (cons u us) ts)
  where
    e : suc i + number_of_terms ts ≡ i + suc (number_of_terms ts)
    e = omega arith

    lower : (ks : List ℕ) → Rise (suc i) (i + suc (number_of_terms ts)) ks → Rise i (i + suc (number_of_terms ts)) ks
    lower [] h = tt
    lower (k ∷ ks) h = let l = h.0 in (omega (arith, l), h.1, h.2)

    by_test : (b : Bool) → Rise (suc i) (suc i + number_of_terms ts) (numbers_of (suc i) us ts) → Rise (suc i) (suc i + number_of_terms ts) (numbers_of (suc i) (cons u us) ts)
        → Rise i (i + suc (number_of_terms ts)) (cond b (i ∷ numbers_of (suc i) us ts) (numbers_of (suc i) (cons u us) ts))
    by_test true r d = (omega arith, omega arith, subst (λ n. Rise (suc i) n (numbers_of (suc i) us ts)) e r)
    by_test false r d = lower (numbers_of (suc i) (cons u us) ts) (subst (λ n. Rise (suc i) n (numbers_of (suc i) (cons u us) ts)) e d)

-- us, with others, in order, are ts
pub record IsPartOfList (ts us : RawTerms) : Type 0 where
  pub others : RawTerms
  pub whole : sorted_terms (join us others) ≡ ts

-- A list is put in order with a term before it or put in.
sorted_insert : (t : RawTerm) (ys : RawTerms) → sorted_terms (insert_term t ys) ≡ insert_term t (sorted_terms ys)
sorted_insert t nil = refl
sorted_insert t (cons y ys) = by_test (stands_after t y) (sorted_insert t ys)
  where
    by_test : (b : Bool) → sorted_terms (insert_term t ys) ≡ insert_term t (sorted_terms ys) → sorted_terms (cond b (cons y (insert_term t ys)) (cons t (cons y ys))) ≡ insert_term t (insert_term y (sorted_terms ys))
    by_test true r = ap (insert_term y) r ∙ insert_term-comm y t (sorted_terms ys)
    by_test false r = refl

-- the head of the whole, where it isn't that of the part, stands among the others
without_head : (t u : RawTerm) (ts us : RawTerms) → Climbs (cons u us) → Climbs (cons t ts) → same u t ≡ false → IsPartOfList (cons t ts) (cons u us) → IsPartOfList ts (cons u us)
without_head t u ts us cu ct q p =
    let rs : RawTerms = sorted_terms p.others in
    let w : sorted_terms (join (cons u us) rs) ≡ cons t ts = sorted_terms-right (cons u us) p.others ∙ p.whole in
    let m : Among (join (cons u us) rs) t = among_sorted t (join (cons u us) rs) (subst (λ ys. Among ys t) (sym w) (inl refl)) in
    let n : Among rs t = not_us rs (Among-join (cons u us) rs t m) w in
    let b : insert_term t (taken t rs) ≡ rs = put_back t rs (climbs rs (sorted_terms-idempotent p.others)) n in
    let x : insert_term t (sorted_terms (join (cons u us) (taken t rs))) ≡ cons t ts = sym (behind_first t (cons u us) (taken t rs)) ∙ same_rest rs b ∙ w in
    record {
      others = taken t rs;
      whole = sym (taken-insert t (sorted_terms (join (cons u us) (taken t rs)))) ∙ ap (taken t) x ∙ taken_head t ts;
    }
  where
    same_rest : (rs : RawTerms) → insert_term t (taken t rs) ≡ rs → sorted_terms (join (cons u us) (cons t (taken t rs))) ≡ sorted_terms (join (cons u us) rs)
    same_rest rs b =
        sym (sorted_terms-right (cons u us) (cons t (taken t rs))) ∙ ap (λ ys. sorted_terms (join (cons u us) ys)) (sym (sorted_insert t (taken t rs)) ∙ ap sorted_terms b)
        ∙ sorted_terms-right (cons u us) rs

    -- t is at or below each of the whole, so at or below u; and u at or below each of us
    not_us : (rs : RawTerms) → Among (cons u us) t ⊎ Among rs t → sorted_terms (join (cons u us) rs) ≡ cons t ts → Among rs t
    not_us rs (inr n) w = n
    not_us rs (inl n) w =
        let low : stands_after t u ≡ false = each_among (λ x. stands_after t x ≡ false) u (cons t ts) (not_after_itself t, ct.0) (subst (λ ys. Among ys u) w (Among-insert u u (sorted_terms (join us rs)) (inl refl))) in
        let high : stands_after u t ≡ false = each_among (λ x. stands_after u x ≡ false) t (cons u us) (not_after_itself u, cu.0) n in
        absurd (both_ways _ q (same-equal u t (after-antisym u t high low)))

with_head : (t : RawTerm) (ts us : RawTerms) → IsPartOfList (cons t ts) (cons t us) → IsPartOfList ts us
with_head t ts us p = record { others = p.others; whole = sym (taken-insert t (sorted_terms (join us p.others))) ∙ ap (taken t) p.whole ∙ taken_head t ts }

-- a part's numbers choose it: the least numbers among equal terms
pub numbers_choose : (i : ℕ) (us ts : RawTerms) → Climbs us → Climbs ts → IsPartOfList ts us → chosen i (numbers_of i us ts) ts ≡ us
numbers_choose i nil ts cu ct p = refl
numbers_choose i (cons u us) nil cu ct p = absurd (nothing_there p.others p.whole)
  where
    nothing_there : (rs : RawTerms) → sorted_terms (join (cons u us) rs) ≡ nil → ⊥
    nothing_there rs e = subst (λ ys. Among ys u) e (Among-insert u u (sorted_terms (join us rs)) (inl refl))
numbers_choose i (cons u us) (cons t ts) cu ct p = by_test (same u t) refl (λ q. numbers_choose (suc i) us ts cu.1 ct.1 q) (λ q. numbers_choose (suc i) (cons u us) ts cu ct.1 q)
  where
    skipped : (k : ℕ) (ks : List ℕ) → (nat_eq i k ≡ false) → chosen i (k ∷ ks) (cons t ts) ≡ chosen (suc i) (k ∷ ks) ts
    skipped k ks e = rw e refl

    -- numbers from i + 1 on aren't i
    later : (ks : List ℕ) → Rise (suc i) (suc i + number_of_terms ts) ks → chosen i ks (cons t ts) ≡ chosen (suc i) ks ts
    later [] h = refl
    later (k ∷ ks) h = skipped k ks (differs (nat_eq i k) refl)
      where
        differs : (b : Bool) → nat_eq i k ≡ b → b ≡ false
        differs false e = refl
        differs true e = let w : i ≡ k = eqb-true i k e in let l = h.0 in absurd (omega (arith, w, l))

    by_test : (b : Bool) → same u t ≡ b → (IsPartOfList ts us → chosen (suc i) (numbers_of (suc i) us ts) ts ≡ us) → (IsPartOfList ts (cons u us) → chosen (suc i) (numbers_of (suc i) (cons u us) ts) ts ≡ cons u us)
        → chosen i (cond b (i ∷ numbers_of (suc i) us ts) (numbers_of (suc i) (cons u us) ts)) (cons t ts) ≡ cons u us
    by_test true q r d =
        let e : u ≡ t = same_term u t q in
        let p2 : IsPartOfList (cons t ts) (cons t us) = subst (λ x. IsPartOfList (cons t ts) (cons x us)) e p in
        rw (eq-eqb i i refl) (ap (cons t) (r (with_head t ts us p2)) ∙ ap (λ x. cons x us) (sym e))
    by_test false q r d = later (numbers_of (suc i) (cons u us) ts) (numbers_rise (suc i) (cons u us) ts) ∙ d (without_head t u ts us cu ct q p)
