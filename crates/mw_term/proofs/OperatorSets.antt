-- Sets of operators as nodes keep them.
use Rattle.std.proofs.Common.{◌≡◌, ◌∙◌, ℕ, ◌%◌, inl, inr, ap, arith}
use Rattle.std.specs.Int.Bits.{bit_and, bit_or}
use Rattle.std.specs.Int.{bit_at}
use Rattle.std.proofs.lemmas.Nat.Bits.{bit_at_and, bit_at_or, bit_at-zero, bit_at-pow_same, same_from_bits}
use Rattle.mw_logic.specs.Term.{RawTerm, RawTerms, apply, cons}
use Rattle.mw_logic.specs.Parts.{number_of_terms}
use Rattle.mw_term.specs.OperatorSets.{AreApart, Lacks, bits_above, long_bit, operator_bit, operators_in, operators_in_all, remainders_in, remainders_in_all, with_operator}
use Rattle.mw_term.specs.declared.operators.Sought.{Sought}

pub or_assoc : (a b c : ℕ) → bit_or (bit_or a b) c ≡ bit_or a (bit_or b c)
or_assoc a b c = same_from_bits (bit_or (bit_or a b) c) (bit_or a (bit_or b c))
    (λ i. let p = bit_at_or (bit_or a b) c i in let q = bit_at_or a b i in let r = bit_at_or a (bit_or b c) i in let s = bit_at_or b c i in omega (arith, p, q, r, s))

no_bit : (s i : ℕ) → s ≡ 0 → bit_at s i ≡ 0
no_bit s i e = ap (λ x. bit_at x i) e ∙ bit_at-zero i

-- what meets neither of two sets
left_apart : (a b s : ℕ) → bit_and (bit_or a b) s ≡ 0 → bit_and a s ≡ 0
left_apart a b s h = same_from_bits (bit_and a s) 0
    (λ i. let p = bit_at_and (bit_or a b) s i in let q = bit_at_or a b i in let r = bit_at_and a s i in let z = no_bit _ i h in let o = bit_at-zero i in omega (arith, p, q, r, z, o))

right_apart : (a b s : ℕ) → bit_and (bit_or a b) s ≡ 0 → bit_and b s ≡ 0
right_apart a b s h = same_from_bits (bit_and b s) 0
    (λ i. let p = bit_at_and (bit_or a b) s i in let q = bit_at_or a b i in let r = bit_at_and b s i in let z = no_bit _ i h in let o = bit_at-zero i in omega (arith, p, q, r, z, o))

-- where none of a term's operators is sought, neither is the one on top, nor one of the arguments'
pub lacks_top : (f : ℕ) (ts : RawTerms) (s : Sought) → AreApart (operators_in (apply f ts)) s → Lacks s f
lacks_top f ts s (inl h) =
    let both = left_apart (bits_above f (number_of_terms ts)) (remainders_in_all ts) s.remainders h in
    let k = left_apart (operator_bit f) (long_bit (number_of_terms ts)) s.remainders both in
    let p = bit_at_and (operator_bit f) s.remainders (f % 32) in let q = bit_at-pow_same (f % 32) in let z = no_bit _ (f % 32) k in inl (omega (arith, p, q, z))
lacks_top f ts s (inr h) = inr (omega (arith, h))

pub arguments_apart : (f : ℕ) (ts : RawTerms) (s : Sought) → AreApart (operators_in (apply f ts)) s → AreApart (operators_in_all ts) s
arguments_apart f ts s (inl h) = inl (right_apart (bits_above f (number_of_terms ts)) (remainders_in_all ts) s.remainders h)
arguments_apart f ts s (inr h) = inr (omega (arith, h))

pub first_apart : (t : RawTerm) (ts : RawTerms) (s : Sought) → AreApart (operators_in_all (cons t ts)) s → AreApart (operators_in t) s
first_apart t ts s (inl h) = inl (left_apart (remainders_in t) (remainders_in_all ts) s.remainders h)
first_apart t ts s (inr h) = inr (omega (arith, h))

pub others_apart : (t : RawTerm) (ts : RawTerms) (s : Sought) → AreApart (operators_in_all (cons t ts)) s → AreApart (operators_in_all ts) s
others_apart t ts s (inl h) = inl (right_apart (remainders_in t) (remainders_in_all ts) s.remainders h)
others_apart t ts s (inr h) = inr (omega (arith, h))

-- one more that is sought
pub lacks_before : (s : Sought) (f g : ℕ) → Lacks (with_operator s g) f → Lacks s f
lacks_before s f g (inl h) = let p = bit_at_or s.remainders (operator_bit g) (f % 32) in inl (omega (arith, p, h))
lacks_before s f g (inr h) = inr (omega (arith, h))

pub has_last : (s : Sought) (f : ℕ) → Lacks (with_operator s f) f → ⊥
has_last s f (inl h) = let p = bit_at_or s.remainders (operator_bit f) (f % 32) in let q = bit_at-pow_same (f % 32) in omega (arith, p, q, h)
has_last s f (inr h) = omega (arith, h)
