-- The hash of a term: a number below 2 ^ 32, so that terms whose hashes differ are different. The hash of an operator on arguments depends on
-- the sum that the arguments' hashes give, each of them scattered: so the hash of a part of a list is known by a difference.
use Rattle.std.specs.Prelude.{◌+◌, ◌*◌, ◌/◌, ◌%◌, ◌^◌, ℕ, List, [], ◌∷◌}
use Rattle.mw_logic.specs.Term.{RawTerm, numeral, quoted, variable, apply, RawTerms, nil, cons}

-- the upper half of a word below the lower one
abbrev pub turned : ℕ → ℕ
turned n = n / 2 ^ 16 + n % 2 ^ 16 * 2 ^ 16

-- different words give different ones
abbrev pub stirred : ℕ → ℕ
stirred n = turned (n * ((n * 2 % 2 ^ 32 + 1) % 2 ^ 32) % 2 ^ 32)

abbrev pub scattered : ℕ → ℕ
scattered n = stirred (stirred ((n * 2654435769 % 2 ^ 32 + 374761393) % 2 ^ 32))

abbrev pub hash_above : ℕ → ℕ → ℕ
hash_above f sum = (f * 2246822519 % 2 ^ 32 + sum) % 2 ^ 32

abbrev pub hash_of_bytes : List ℕ → ℕ
hash_of_bytes [] = 0
hash_of_bytes (b ∷ bs) = (hash_of_bytes bs * 31 % 2 ^ 32 + b) % 2 ^ 32

abbrev mutual
  pub hash_of : RawTerm → ℕ
  hash_of (numeral n) = n % 2 ^ 32
  hash_of (quoted q) = hash_of_bytes q
  hash_of (variable x) = (hash_of_bytes x.name + x.sort) % 2 ^ 32
  hash_of (apply f ts) = hash_above f (hash_sum ts)

  -- the sum over the terms of a list
  pub hash_sum : RawTerms → ℕ
  hash_sum nil = 0
  hash_sum (cons t ts) = (scattered (hash_of t) + hash_sum ts) % 2 ^ 32
