-- The operators that stand in a term, as far as a node tells: the remainders of their numbers by 32, as a word with a bit for each, and the
-- largest of the numbers, which counts as 255 where it is more. The last bit also says that an operator stands on a long list of arguments.
-- Operators that are sought are known by their remainders and by the least of their numbers: a term has none of them if it has none of their
-- remainders, or if its largest number is below the least of theirs.
use Rattle.std.specs.Prelude.{◌≡◌, ◌<◌, ◌⊎◌, ◌%◌, ◌^◌, ℕ, min, max, cond, leb}
use Rattle.std.specs.Int.Bits.{bit_and, bit_or}
use Rattle.std.specs.Int.{bit_at}
use Rattle.mw_logic.specs.Term.{RawTerm, numeral, quoted, variable, apply, RawTerms, nil, cons}
use Rattle.mw_logic.specs.Parts.{number_of_terms}
use Rattle.mw_term.specs.declared.operators.Operators.{Operators}
use Rattle.mw_term.specs.declared.operators.Sought.{Sought}

abbrev pub operator_bit : ℕ → ℕ
operator_bit f = 2 ^ (f % 32)

-- eight arguments or more
abbrev pub long_bit : ℕ → ℕ
long_bit n = cond (leb 8 n) (2 ^ 31) 0

-- what an operator on so many arguments adds
abbrev pub bits_above : ℕ → ℕ → ℕ
bits_above f n = bit_or (operator_bit f) (long_bit n)

abbrev pub bounded : ℕ → ℕ
bounded f = min f 255

abbrev mutual
  pub remainders_in : RawTerm → ℕ
  remainders_in (numeral n) = 0
  remainders_in (quoted q) = 0
  remainders_in (variable x) = 0
  remainders_in (apply f ts) = bit_or (bits_above f (number_of_terms ts)) (remainders_in_all ts)

  pub remainders_in_all : RawTerms → ℕ
  remainders_in_all nil = 0
  remainders_in_all (cons t ts) = bit_or (remainders_in t) (remainders_in_all ts)

abbrev mutual
  pub last_in : RawTerm → ℕ
  last_in (numeral n) = 0
  last_in (quoted q) = 0
  last_in (variable x) = 0
  last_in (apply f ts) = max (bounded f) (last_in_all ts)

  pub last_in_all : RawTerms → ℕ
  last_in_all nil = 0
  last_in_all (cons t ts) = max (last_in t) (last_in_all ts)

abbrev pub operators_in : RawTerm → Operators
operators_in t = record { remainders = remainders_in t; last = last_in t }

abbrev pub operators_in_all : RawTerms → Operators
operators_in_all ts = record { remainders = remainders_in_all ts; last = last_in_all ts }

abbrev pub with_operator : Sought → ℕ → Sought
with_operator s f = record { remainders = bit_or s.remainders (operator_bit f); least = min s.least (bounded f) }

-- f is none of those that are sought
abbrev pub Lacks : Sought → ℕ → Type 0
Lacks s f = (bit_at s.remainders (f % 32) ≡ 0) ⊎ (bounded f < s.least)

-- none of those that stand in a term is sought
abbrev pub AreApart : Operators → Sought → Type 0
AreApart o s = (bit_and o.remainders s.remainders ≡ 0) ⊎ (o.last < s.least)
