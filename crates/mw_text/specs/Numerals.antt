-- Numbers in texts.
use Rattle.std.specs.Prelude.{ℕ, ◌^◌, List, [], ◌∷◌, Bool, false, ◌&&◌, nat_lt, Option, None, Some, if◌then◌else◌}
use Rattle.std.specs.Str.{all_ascii_digits}
use Rattle.std.specs.Str.Parse.{digits_value}

-- one decimal digit at least, and nothing else
abbrev pub are_digits : List ℕ → Bool
are_digits [] = false
are_digits (b ∷ bs) = all_ascii_digits (b ∷ bs)

-- the number that decimal digits write, where it is below 2^128
abbrev pub number_in : List ℕ → Option ℕ
number_in text = if are_digits text && nat_lt (digits_value 10 text) (2 ^ 128) then Some (digits_value 10 text) else None
