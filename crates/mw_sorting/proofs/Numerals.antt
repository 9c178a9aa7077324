-- A table of the sorts of numerals has the computed sort of each numeral.
use Rattle.std.specs.Prelude.{◌≡◌, ◌⊎◌, ◌<◌, ◌≤◌, ◌+◌, ◌-◌, ◌%◌, ℕ, zero, suc, Bool, true, false, cond, nat_eq, refl}
use Rattle.std.proofs.Common.{inl, inr, ap, sym, subst, ◌∙◌, arith}
use Rattle.std.proofs.lemmas.Bool.{cases_lt, eqb-true, eq-eqb, lt-ltb, le-ltb}
use Rattle.std.proofs.lemmas.Nat.{mod_below}
use Rattle.std.proofs.Math.Nat.{mod-eq_of_lt, mod_self, suc-mod, zero-mod}
use Rattle.mw_logic.specs.Term.{numeral}
use Rattle.mw_logic.specs.Signature.{Signature, Sorted}
use Rattle.mw_sorting.specs.ComputedSorts.{ComputedSort, zero_sort, number_sort}
use Rattle.mw_sorting.specs.NumberTable.{entry_behind, entry_of, IsNumberTable}

not_equal : (n m : ℕ) → n < m → nat_eq n m ≡ false
not_equal n m h = by_test (nat_eq n m) refl
  where
    by_test : (b : Bool) → nat_eq n m ≡ b → b ≡ false
    by_test false e = refl
    by_test true e = let l = eqb-true n m e in absurd (omega (arith, h, l))

module _ (size back : ℕ) (cycle : back < size) where
  low : (n : ℕ) → n < back → entry_of size back n ≡ n
  low n h = ap (λ b. cond b n (back + (n - back) % (size - back))) (lt-ltb n back h)

  high : (n : ℕ) → back ≤ n → entry_of size back n ≡ back + (n - back) % (size - back)
  high n h = ap (λ b. cond b n (back + (n - back) % (size - back))) (le-ltb n back h)

  -- each number has an entry
  pub entry_below : (n : ℕ) → entry_of size back n < size
  entry_below n = of (cases_lt n back)
    where
      of : (n < back) ⊎ (back ≤ n) → entry_of size back n < size
      of (inl h) = let e = low n h in omega (arith, e, h, cycle)
      of (inr h) =
          let e = high n h in
          let m = mod_below (n - back) (size - back) (omega (arith, cycle)) in
          omega (arith, e, m, cycle)

  -- the next number's entry is the one behind
  entry_next : (n : ℕ) → entry_of size back (suc n) ≡ entry_behind size back (entry_of size back n)
  entry_next n = of (cases_lt n back)
    where
      of : (n < back) ⊎ (back ≤ n) → entry_of size back (suc n) ≡ entry_behind size back (entry_of size back n)
      of (inl h) =
          let t : entry_behind size back n ≡ suc n = ap (λ b. cond b back (suc n)) (not_equal (suc n) size (omega (arith, h, cycle))) in
          rw (low n h) (sooner (cases_lt (suc n) back) ∙ sym t)
        where
          sooner : (suc n < back) ⊎ (back ≤ suc n) → entry_of size back (suc n) ≡ suc n
          sooner (inl k) = low (suc n) k
          sooner (inr k) =
              let e : back ≡ suc n = omega (arith, h, k) in
              let z : suc n - back ≡ 0 = omega (arith, e) in
              let m : (suc n - back) % (size - back) ≡ 0 = ap (λ i. i % (size - back)) z ∙ zero-mod (size - back) in
              let p = high (suc n) k in
              omega (arith, p, m, e)
      of (inr h) =
          let s : suc n - back ≡ suc (n - back) = omega (arith, h) in
          let r : ℕ = (n - back) % (size - back) in
          let b : r < size - back = mod_below (n - back) (size - back) (omega (arith, cycle)) in
          let e : entry_of size back (suc n) ≡ back + suc r % (size - back) =
          high (suc n) (omega (arith, h)) ∙ ap (λ i. back + i % (size - back)) s ∙ ap (λ i. back + i) (suc-mod (n - back) (size - back)) in
          rw (high n h) (e ∙ turned r b (cases_lt (suc r) (size - back)))
        where
          turned : (r : ℕ) → r < size - back → (suc r < size - back) ⊎ (size - back ≤ suc r) → back + suc r % (size - back) ≡ entry_behind size back (back + r)
          turned r b (inl k) =
              let t : entry_behind size back (back + r) ≡ suc (back + r) = ap (λ c. cond c back (suc (back + r))) (not_equal (suc (back + r)) size (omega (arith, k, cycle))) in
              let m : suc r % (size - back) ≡ suc r = mod-eq_of_lt k in
              omega (arith, t, m)
          turned r b (inr k) =
              let l : suc r ≡ size - back = omega (arith, b, k) in
              let i : suc (back + r) ≡ size = omega (arith, l, cycle) in
              let t : entry_behind size back (back + r) ≡ back = ap (λ c. cond c back (suc (back + r))) (eq-eqb (suc (back + r)) size i) in
              let m : suc r % (size - back) ≡ 0 = ap (λ i. i % (size - back)) l ∙ mod_self (size - back) in
              omega (arith, t, m)

-- the entry of a numeral is its computed sort
pub number_sorts : (sig : Signature) (size back : ℕ) (entry : ℕ → Sorted) → (t : IsNumberTable sig size back entry) → (n : ℕ) → ComputedSort sig (numeral n) (entry (entry_of size back n))
number_sorts sig size back entry t zero = subst (ComputedSort sig (numeral 0)) (sym t.first ∙ ap entry (sym (at_zero (cases_lt 0 back)))) (zero_sort t.named)
  where
    at_zero : (0 < back) ⊎ (back ≤ 0) → entry_of size back 0 ≡ 0
    at_zero (inl h) = low size back t.cycle 0 h
    at_zero (inr h) =
        let z : 0 - back ≡ 0 = omega arith in
        let m : (0 - back) % (size - back) ≡ 0 = ap (λ i. i % (size - back)) z ∙ zero-mod (size - back) in
        let p = high size back t.cycle 0 h in
        omega (arith, p, m, h)
number_sorts sig size back entry t (suc n) =
    subst (λ i. ComputedSort sig (numeral (suc n)) (entry i)) (sym (entry_next size back t.cycle n))
    (number_sort t.successor t.is (number_sorts sig size back entry t n) (t.leads (entry_of size back n) (entry_below size back t.cycle n)))
