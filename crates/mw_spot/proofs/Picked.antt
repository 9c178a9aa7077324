-- Numbers that rise, and those of them that other numbers pick.
use Rattle.std.specs.Prelude.{◌≡◌, ◌+◌, ◌-◌, ◌≤◌, ℕ, suc, List, [], ◌∷◌, length, map, Bool, true, false, cond, nat_eq, unwrap_or, slice_get, refl}
use Rattle.std.proofs.Common.{ap, sym, subst, ◌∙◌, arith}
use Rattle.std.proofs.lemmas.Bool.{both_ways, eqb-true, eq-eqb}
use Rattle.mw_logic.specs.Term.{RawTerm, RawTerms, nil, cons, join}
use Rattle.mw_logic.specs.Parts.{number_of_terms}
use Rattle.mw_arguments.specs.Places.{chosen, Rise}
use Rattle.mw_arguments.proofs.Middles.{apart}
use Rattle.mw_redex.proofs.Middles.{rise_lower}

-- what numbers that rise choose of a list stands behind the terms before the first of them
pub chosen_on : (i n : ℕ) (ks : List ℕ) (t : RawTerm) (ts : RawTerms) → Rise (suc i) n ks → chosen i ks (cons t ts) ≡ chosen (suc i) ks ts
chosen_on i n [] t ts h = refl
chosen_on i n (k ∷ ks) t ts h = let l = h.0 in rw (apart i k (omega (arith, l))) refl

pub chosen_behind : (i n : ℕ) (ks : List ℕ) (b ts : RawTerms) → Rise (i + number_of_terms b) n ks → chosen i ks (join b ts) ≡ chosen (i + number_of_terms b) ks ts
chosen_behind i n ks nil ts h = let z : i ≡ i + 0 = omega arith in ap (λ j. chosen j ks ts) z
chosen_behind i n ks (cons t b) ts h =
    let z : i + suc (number_of_terms b) ≡ suc i + number_of_terms b = omega arith in
    let k : Rise (suc i + number_of_terms b) n ks = subst (λ j. Rise j n ks) z h in
    let l : suc i ≤ suc i + number_of_terms b = omega arith in
    chosen_on i n ks t (join b ts) (rise_lower (suc i) (suc i + number_of_terms b) n ks l k) ∙ chosen_behind (suc i) n ks b ts k ∙ ap (λ j. chosen j ks ts) (sym z)

pub chosen_nil : (i : ℕ) (ks : List ℕ) → chosen i ks nil ≡ nil
chosen_nil i [] = refl
chosen_nil i (k ∷ ks) = refl

-- those of the numbers ns that have the numbers ks among them; the first of ns has number i
abbrev pub picked : ℕ → List ℕ → List ℕ → List ℕ
picked i [] ns = []
picked i (k ∷ ks) [] = []
picked i (k ∷ ks) (n ∷ ns) = cond (nat_eq i k) (n ∷ picked (suc i) ks ns) (picked (suc i) (k ∷ ks) ns)

-- they rise too
pub picked_rise : (a m i : ℕ) (ks ns : List ℕ) → Rise a m ns → Rise a m (picked i ks ns)
picked_rise a m i [] ns h = tt
picked_rise a m i (k ∷ ks) [] h = tt
picked_rise a m i (k ∷ ks) (n ∷ ns) h = by_test (nat_eq i k) (picked_rise (suc n) m (suc i) ks ns h.2) (picked_rise (suc n) m (suc i) (k ∷ ks) ns h.2)
  where
    by_test : (b : Bool) → Rise (suc n) m (picked (suc i) ks ns) → Rise (suc n) m (picked (suc i) (k ∷ ks) ns) → Rise a m (cond b (n ∷ picked (suc i) ks ns) (picked (suc i) (k ∷ ks) ns))
    by_test true p q = (h.0, h.1, p)
    by_test false p q = let l = h.0 in rise_lower a (suc n) m (picked (suc i) (k ∷ ks) ns) (omega (arith, l)) q

-- and choose what ks choose of what ns choose
pub picked_chosen : (a m i : ℕ) (ks ns : List ℕ) (ts : RawTerms) → Rise a m ns → chosen a (picked i ks ns) ts ≡ chosen i ks (chosen a ns ts)
picked_chosen a m i [] ns ts h = refl
picked_chosen a m i (k ∷ ks) [] ts h = refl
picked_chosen a m i (k ∷ ks) (n ∷ ns) nil h = chosen_nil a (picked i (k ∷ ks) (n ∷ ns))
picked_chosen a m i (k ∷ ks) (n ∷ ns) (cons t ts) h = by_number (nat_eq a n) refl (λ j ls ms r. picked_chosen (suc a) m j ls ms ts r)
  where
    here : (b : Bool) → nat_eq a n ≡ true → Rise (suc a) m ns → ((j : ℕ) (ls ms : List ℕ) → Rise (suc a) m ms → chosen (suc a) (picked j ls ms) ts ≡ chosen j ls (chosen (suc a) ms ts))
        → chosen a (cond b (n ∷ picked (suc i) ks ns) (picked (suc i) (k ∷ ks) ns)) (cons t ts) ≡ cond b (cons t (chosen (suc i) ks (chosen (suc a) ns ts))) (chosen (suc i) (k ∷ ks) (chosen (suc a) ns ts))
    here true e r p = rw e (ap (cons t) (p (suc i) ks ns r))
    here false e r p = chosen_on a m (picked (suc i) (k ∷ ks) ns) t ts (picked_rise (suc a) m (suc i) (k ∷ ks) ns r) ∙ p (suc i) (k ∷ ks) ns r

    by_number : (b : Bool) → nat_eq a n ≡ b → ((j : ℕ) (ls ms : List ℕ) → Rise (suc a) m ms → chosen (suc a) (picked j ls ms) ts ≡ chosen j ls (chosen (suc a) ms ts)) → chosen a (picked i (k ∷ ks) (n ∷ ns)) (cons t ts) ≡ chosen i (k ∷ ks) (cond b (cons t (chosen (suc a) ns ts)) (chosen (suc a) (n ∷ ns) ts))
    by_number true e p = let z : a ≡ n = eqb-true a n e in here (nat_eq i k) e (subst (λ j. Rise (suc j) m ns) (sym z) h.2) p
    by_number false e p =
        let l = h.0 in
        let d : a ≡ n → ⊥ = λ z. both_ways _ e (eq-eqb a n z) in
        let r : Rise (suc a) m (n ∷ ns) = (omega (arith, l, d), h.1, h.2) in
        chosen_on a m (picked i (k ∷ ks) (n ∷ ns)) t ts (picked_rise (suc a) m i (k ∷ ks) (n ∷ ns) r) ∙ p i (k ∷ ks) (n ∷ ns) r

-- one by one: what has number k where the first has number i
abbrev pub at_from : ℕ → List ℕ → ℕ → ℕ
at_from i ns k = unwrap_or (slice_get ns (k - i)) k

behind_first : (i m n : ℕ) (ns ks : List ℕ) → Rise (suc i) m ks → map (at_from i (n ∷ ns)) ks ≡ map (at_from (suc i) ns) ks
behind_first i m n ns [] h = refl
behind_first i m n ns (k ∷ ks) h =
    let l = h.0 in
    let z : k - i ≡ suc (k - suc i) = omega (arith, l) in
    let lower : suc i ≤ suc k = omega (arith, l) in
    let e : at_from i (n ∷ ns) k ≡ at_from (suc i) ns k = ap (λ j. unwrap_or (slice_get (n ∷ ns) j) k) z in
    ap (λ x. x ∷ map (at_from i (n ∷ ns)) ks) e ∙ ap (λ xs. at_from (suc i) ns k ∷ xs) (behind_first i m n ns ks (rise_lower (suc i) (suc k) m ks lower h.2))

pub picked_each : (i m : ℕ) (ks ns : List ℕ) → m ≡ i + length ns → Rise i m ks → map (at_from i ns) ks ≡ picked i ks ns
picked_each i m [] ns e h = refl
picked_each i m (k ∷ ks) [] e h = let l = h.0 in let u = h.1 in absurd (omega (arith, l, u, e))
picked_each i m (k ∷ ks) (n ∷ ns) e h = by_number (nat_eq i k) refl (λ ls r. picked_each (suc i) m ls ns (omega (arith, e)) r)
  where
    by_number : (b : Bool) → nat_eq i k ≡ b → ((ls : List ℕ) → Rise (suc i) m ls → map (at_from (suc i) ns) ls ≡ picked (suc i) ls ns) → map (at_from i (n ∷ ns)) (k ∷ ks) ≡ cond b (n ∷ picked (suc i) ks ns) (picked (suc i) (k ∷ ks) ns)
    by_number true q p =
        let s : i ≡ k = eqb-true i k q in
        let r : Rise (suc i) m ks = subst (λ j. Rise (suc j) m ks) (sym s) h.2 in
        let w : k - i ≡ 0 = omega (arith, s) in
        ap (λ j. unwrap_or (slice_get (n ∷ ns) j) k ∷ map (at_from i (n ∷ ns)) ks) w ∙ ap (λ xs. n ∷ xs) (behind_first i m n ns ks r ∙ p ks r)
    by_number false q p =
        let l = h.0 in
        let d : i ≡ k → ⊥ = λ w. both_ways _ q (eq-eqb i k w) in
        let r : Rise (suc i) m (k ∷ ks) = (omega (arith, l, d), h.1, h.2) in
        behind_first i m n ns (k ∷ ks) r ∙ p (k ∷ ks) r
