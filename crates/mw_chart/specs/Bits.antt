-- Sets of numbers as words of 64 bits.
use Rattle.std.specs.Prelude.{ℕ, ◌≡◌, ◌/◌, ◌%◌, List, slice_index}
use Rattle.std.specs.Int.{bit_at}

-- the set has the number
abbrev pub IsSet : List ℕ → ℕ → Type 0
IsSet set x = bit_at (slice_index set (x / 64)) (x % 64) ≡ 1
