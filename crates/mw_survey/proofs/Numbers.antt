-- Arguments by their numbers, one after another.
use Rattle.std.specs.Prelude.{◌≡◌, ◌+◌, ◌-◌, ◌≤◌, ◌<◌, ℕ, zero, suc, List, [], ◌∷◌, ◌++◌, take, length, get_or, Bool, true, false, cond, nat_eq, Some, None, slice_get, refl}
use Rattle.std.proofs.Common.{ap, sym, subst, ◌∙◌, arith}
use Rattle.std.proofs.lemmas.Bool.{eqb-true, both_ways, eq-eqb}
use Rattle.std.proofs.lemmas.List.{take_more}
use Rattle.mw_logic.proofs.Pushed.{terms_of-append}
use Rattle.mw_logic.specs.Term.{RawTerm, RawTerms, nil, cons, join}
use Rattle.mw_logic.specs.Terms.{terms_of, list_of}
use Rattle.mw_logic.specs.Signature.{at_number}
use Rattle.mw_arguments.specs.Places.{chosen, Rise}
use Rattle.mw_term.proofs.Terms.{list_of-terms_of}

-- what one number more chooses
chosen_behind : (a m : ℕ) (ks : List ℕ) (k : ℕ) (ts : RawTerms) (t : RawTerm) → Rise a m (ks ++ k ∷ []) → slice_get (list_of ts) (k - a) ≡ Some t → chosen a (ks ++ k ∷ []) ts ≡ join (chosen a ks ts) (cons t nil)
chosen_behind a m [] k nil t h e = cc
chosen_behind a m [] k (cons u us) t h e = by_test (nat_eq a k) refl (λ g p. chosen_behind (suc a) m [] k us t g p)
  where
    by_test : (b : Bool) → nat_eq a k ≡ b → (Rise (suc a) m (k ∷ []) → slice_get (list_of us) (k - suc a) ≡ Some t → chosen (suc a) (k ∷ []) us ≡ cons t nil)
        → cond b (cons u (chosen (suc a) [] us)) (chosen (suc a) (k ∷ []) us) ≡ cons t nil
    by_test true z next =
        let s : a ≡ k = eqb-true a k z in
        let w : k - a ≡ 0 = omega (arith, s) in
        let g : slice_get (list_of (cons u us)) 0 ≡ Some t = ap (slice_get (list_of (cons u us))) (sym w) ∙ e in
        let p : u ≡ t = cc in
        ap (λ v. cons v nil) p
    by_test false z next =
        let l = h.0 in
        let d : a ≡ k → ⊥ = λ s. both_ways _ z (eq-eqb a k s) in
        let w : k - a ≡ suc (k - suc a) = omega (arith, l, d) in
        next (omega (arith, l, d), h.1, tt) (ap (slice_get (list_of (cons u us))) (sym w) ∙ e)
chosen_behind a m (n ∷ ns) k nil t h e = cc
chosen_behind a m (n ∷ ns) k (cons u us) t h e = by_test (nat_eq a n) refl (λ ls g p. chosen_behind (suc a) m ls k us t g p)
  where
    last : (i : ℕ) (ls : List ℕ) → Rise i m (ls ++ k ∷ []) → i ≤ k
    last i [] r = r.0
    last i (l ∷ ls) r = let a = r.0 in let b = last (suc l) ls r.2 in omega (arith, a, b)

    by_test : (b : Bool) → nat_eq a n ≡ b → ((ls : List ℕ) → Rise (suc a) m (ls ++ k ∷ []) → slice_get (list_of us) (k - suc a) ≡ Some t → chosen (suc a) (ls ++ k ∷ []) us ≡ join (chosen (suc a) ls us) (cons t nil))
        → cond b (cons u (chosen (suc a) (ns ++ k ∷ []) us)) (chosen (suc a) (n ∷ (ns ++ k ∷ [])) us) ≡ join (cond b (cons u (chosen (suc a) ns us)) (chosen (suc a) (n ∷ ns) us)) (cons t nil)
    by_test true z next =
        let s : a ≡ n = eqb-true a n z in
        let r : Rise (suc a) m (ns ++ k ∷ []) = subst (λ j. Rise (suc j) m (ns ++ k ∷ [])) (sym s) h.2 in
        let l = last (suc a) ns r in
        let w : k - a ≡ suc (k - suc a) = omega (arith, l) in
        ap (cons u) (next ns r (ap (slice_get (list_of (cons u us))) (sym w) ∙ e))
    by_test false z next =
        let l = h.0 in
        let d : a ≡ n → ⊥ = λ s. both_ways _ z (eq-eqb a n s) in
        let r : Rise (suc a) m (n ∷ (ns ++ k ∷ [])) = (omega (arith, l, d), h.1, h.2) in
        let b = last (suc a) (n ∷ ns) r in
        let w : k - a ≡ suc (k - suc a) = omega (arith, b) in
        next (n ∷ ns) r (ap (slice_get (list_of (cons u us))) (sym w) ∙ e)

-- numbers that rise are those of arguments
rise_within : (a m : ℕ) (ks : List ℕ) (i : ℕ) → i < length ks → Rise a m ks → (a ≤ get_or ks i 0) × (get_or ks i 0 < m)
rise_within a m [] i l h = absurd (omega (arith, l))
rise_within a m (k ∷ ks) zero l h = (h.0, h.1)
rise_within a m (k ∷ ks) (suc i) l h =
    let r = rise_within (suc k) m ks i (omega (arith, l)) h.2 in
    let b = r.0 in
    let c = h.0 in
    (omega (arith, b, c), r.1)

rise_front : (a m : ℕ) (ks : List ℕ) (i : ℕ) → Rise a m ks → Rise a m (take i ks)
rise_front a m ks zero h = tt
rise_front a m [] (suc i) h = tt
rise_front a m (k ∷ ks) (suc i) h = (h.0, h.1, rise_front (suc k) m ks i h.2)

pub chosen_more : (args part more : List RawTerm) (ks : List ℕ) (i : ℕ) (t : RawTerm) → Rise 1 (suc (length args)) ks → i < length ks → at_number args (get_or ks i 0) ≡ Some t → more ≡ part ++ t ∷ []
    → terms_of part ≡ chosen 1 (take i ks) (terms_of args) → terms_of more ≡ chosen 1 (take (i + 1) ks) (terms_of args)
chosen_more args part more ks i t h l e m q =
    let k : ℕ = get_or ks i 0 in
    let front : take (i + 1) ks ≡ take i ks ++ k ∷ [] = take_more ks i 0 l in
    let r : Rise 1 (suc (length args)) (take i ks ++ k ∷ []) = subst (Rise 1 (suc (length args))) front (rise_front 1 (suc (length args)) ks (i + 1) h) in
    let found : slice_get (list_of (terms_of args)) (k - 1) ≡ Some t = ap (λ ts. slice_get ts (k - 1)) (list_of-terms_of args) ∙ number_is args k t e in
    ap terms_of m ∙ terms_of-append part (t ∷ []) ∙ ap (λ ts. join ts (cons t nil)) q ∙ sym (chosen_behind 1 (suc (length args)) (take i ks) k (terms_of args) t r found) ∙ ap (λ ns. chosen 1 ns (terms_of args)) (sym front)
  where
    number_is : (args : List RawTerm) (k : ℕ) (t : RawTerm) → at_number args k ≡ Some t → slice_get args (k - 1) ≡ Some t
    number_is args zero t e = cc
    number_is args (suc k) t e = let z : suc k - 1 ≡ k = omega arith in ap (slice_get args) z ∙ e

pub none_missing : (args : List RawTerm) (ks : List ℕ) (i : ℕ) → Rise 1 (suc (length args)) ks → i < length ks → at_number args (get_or ks i 0) ≡ None → ⊥
none_missing args ks i h l e = let r = rise_within 1 (suc (length args)) ks i l h in there (get_or ks i 0) args r.0 r.1 e
  where
    there : (k : ℕ) (args : List RawTerm) → 1 ≤ k → k < suc (length args) → at_number args k ≡ None → ⊥
    there zero args a b e = absurd (omega (arith, a))
    there (suc k) [] a b e = absurd (omega (arith, b))
    there (suc zero) (x ∷ xs) a b e = cc
    there (suc (suc k)) (x ∷ xs) a b e = there (suc k) xs (omega arith) (omega (arith, b)) e
