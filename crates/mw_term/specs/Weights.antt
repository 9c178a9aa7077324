-- The weight of a term: its height and, for a long list in it, what that list adds. So a list may outweigh terms that are higher than its own: a
-- node may show the end of a list whose first terms are higher than those that are left.
use Rattle.std.specs.Prelude.{◌≡◌, ◌≤◌, ◌+◌, ◌^◌, ℕ, zero, suc, min, max, Bool, true, false, cond, leb}
use Rattle.std.specs.Int.{bit_at}
use Rattle.std.proofs.Common.{ap, arith, refl}
use Rattle.std.proofs.lemmas.Bool.{le-leb}
use Rattle.std.proofs.lemmas.Nat.Bits.{bit_at_or, bit_at-pow_same}
use Rattle.mw_logic.specs.Term.{RawTerm, numeral, quoted, variable, apply, RawTerms, nil, cons}
use Rattle.mw_logic.specs.NormalForm.{height, highest}
use Rattle.mw_logic.specs.Parts.{number_of_terms}
use Rattle.mw_term.specs.OperatorSets.{bits_above, long_bit, operator_bit, remainders_in, remainders_in_all}

-- what an operator on so many arguments adds, where the bit of long lists in them is this one
abbrev pub added : ℕ → ℕ → ℕ
added zero n = cond (leb 8 n) (min n (2 ^ 32)) 0
added (suc b) n = 2 ^ 32

abbrev pub added_by : RawTerms → ℕ
added_by ts = added (bit_at (remainders_in_all ts) 31) (number_of_terms ts)

abbrev pub weight : RawTerm → ℕ
weight (numeral n) = 1
weight (quoted q) = 1
weight (variable x) = 1
weight (apply f ts) = 1 + (highest ts + added_by ts)

abbrev pub heaviest : RawTerms → ℕ
heaviest nil = 0
heaviest (cons t ts) = max (weight t) (heaviest ts)

added_small : (b n : ℕ) → added b n ≤ 2 ^ 32
added_small zero n = of (leb 8 n)
  where
    of : (l : Bool) → cond l (min n (2 ^ 32)) 0 ≤ 2 ^ 32
    of true = omega arith
    of false = omega arith
added_small (suc b) n = omega arith

added_none : (b n : ℕ) → b ≡ 0 → bit_at (long_bit n) 31 ≡ 0 → added b n ≡ 0
added_none zero n e h = of (leb 8 n) h
  where
    of : (l : Bool) → bit_at (cond l (2 ^ 31) 0) 31 ≡ 0 → cond l (min n (2 ^ 32)) 0 ≡ 0
    of true k = absurd (let p = bit_at-pow_same 31 in omega (arith, k, p))
    of false k = refl
added_none (suc b) n e h = absurd (omega (arith, e))

-- a term without long lists weighs what its height says
flat_weight : (t : RawTerm) → bit_at (remainders_in t) 31 ≡ 0 → weight t ≤ height t
flat_weight (numeral n) h = omega arith
flat_weight (quoted q) h = omega arith
flat_weight (variable x) h = omega arith
flat_weight (apply f ts) h =
    let n = number_of_terms ts in
    let p = bit_at_or (bits_above f n) (remainders_in_all ts) 31 in let q = bit_at_or (operator_bit f) (long_bit n) 31 in
    let e = added_none (bit_at (remainders_in_all ts) 31) n (omega (arith, p, h)) (omega (arith, p, q, h)) in omega (arith, e)

weight_within : (t : RawTerm) → weight t ≤ height t + 2 ^ 32
weight_within (numeral n) = omega arith
weight_within (quoted q) = omega arith
weight_within (variable x) = omega arith
weight_within (apply f ts) = let k = added_small (bit_at (remainders_in_all ts) 31) (number_of_terms ts) in omega (arith, k)

pub heaviest_flat : (ts : RawTerms) → bit_at (remainders_in_all ts) 31 ≡ 0 → heaviest ts ≤ highest ts
heaviest_flat nil h = omega arith
heaviest_flat (cons t ts) h =
    let p = bit_at_or (remainders_in t) (remainders_in_all ts) 31 in
    let x = flat_weight t (omega (arith, p, h)) in let y = heaviest_flat ts (omega (arith, p, h)) in omega (arith, x, y)

pub heaviest_within : (ts : RawTerms) → heaviest ts ≤ highest ts + 2 ^ 32
heaviest_within nil = omega arith
heaviest_within (cons t ts) = let x = weight_within t in let y = heaviest_within ts in omega (arith, x, y)

-- arguments are lighter than what stands on them
pub arguments_lighter : (ts : RawTerms) → heaviest ts ≤ highest ts + added_by ts
arguments_lighter ts = of (bit_at (remainders_in_all ts) 31) refl
  where
    of : (b : ℕ) → bit_at (remainders_in_all ts) 31 ≡ b → heaviest ts ≤ highest ts + added b (number_of_terms ts)
    of zero e = let x = heaviest_flat ts e in omega (arith, x)
    of (suc b) e = let x = heaviest_within ts in omega (arith, x)

pub added_flat : (b n : ℕ) → b ≡ 0 → 8 ≤ n → added b n ≡ min n (2 ^ 32)
added_flat zero n e h = ap (λ l. cond l (min n (2 ^ 32)) 0) (le-leb 8 n h)
added_flat (suc b) n e h = absurd (omega (arith, e))

pub added_deep : (b n : ℕ) → b ≡ 1 → added b n ≡ 2 ^ 32
added_deep zero n e = absurd (omega (arith, e))
added_deep (suc b) n e = refl
