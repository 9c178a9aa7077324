-- How many variables are met: their number grows, and the variables are below it.
use Rattle.std.specs.Prelude.{◌≤◌, ℕ}
use Rattle.std.proofs.Common.{arith}
use Rattle.mw_logic.specs.Term.{RawTerm, numeral, quoted, variable, apply, RawTerms, nil, cons}
use Rattle.mw_position.specs.Positions.{counted, counted_all, IsWithin, AreWithin}

mutual
  pub counted_grows : (n : ℕ) (p : RawTerm) → n ≤ counted n p
  counted_grows n (numeral m) = omega arith
  counted_grows n (quoted q) = omega arith
  counted_grows n (variable x) = omega arith
  counted_grows n (apply f ts) = all_counted_grows n ts

  pub all_counted_grows : (n : ℕ) (ps : RawTerms) → n ≤ counted_all n ps
  all_counted_grows n nil = omega arith
  all_counted_grows n (cons p ps) = omega (arith, counted_grows n p, all_counted_grows (counted n p) ps)

mutual
  pub within_counted : (n m : ℕ) (p : RawTerm) → counted n p ≤ m → IsWithin m p
  within_counted n m (numeral k) h = tt
  within_counted n m (quoted q) h = tt
  within_counted n m (variable x) h = omega (arith, h)
  within_counted n m (apply f ts) h = all_within_counted n m ts h

  pub all_within_counted : (n m : ℕ) (ps : RawTerms) → counted_all n ps ≤ m → AreWithin m ps
  all_within_counted n m nil h = tt
  all_within_counted n m (cons p ps) h =
      (within_counted n m p (let b = all_counted_grows (counted n p) ps in omega (arith, b, h)), all_within_counted (counted n p) m ps h)
