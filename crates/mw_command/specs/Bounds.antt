-- Bounds of commands.
use Rattle.std.specs.Prelude.{ℕ, List, [], ◌∷◌, ◌-◌, ◌^◌, ◌==◌, ◌&&◌, nat_le, Option, None, Some, option_map, if◌then◌else◌, codes}
use Rattle.std.specs.Borrow.{Bor}
use Rattle.mw_lex.specs.declared.token.Token.{Token}
use Rattle.mw_text.specs.Numerals.{number_in}
use Rattle.mw_module.specs.Words.{is}

-- a number that may be a bound
abbrev pub in_range : ℕ → Option ℕ
in_range n = if nat_le n (2 ^ 64 - 1) then Some n else None

abbrev pub in_range_if : Option ℕ → Option ℕ
in_range_if None = None
in_range_if (Some n) = in_range n

-- the bound that a text is: a number from 1 to 2^64 - 1 in decimal digits, the first of which isn't 0
abbrev pub bound_of : List ℕ → Option ℕ
bound_of [] = None
bound_of (b ∷ bs) = if b == 48 then None else in_range_if (number_in (b ∷ bs))

-- the bound that stands in front in brackets, and what stands behind it
abbrev pub bound_in_front : List Token → Option (ℕ × List Token)
bound_in_front [] = None
bound_in_front (a ∷ []) = None
bound_in_front (a ∷ b ∷ []) = None
bound_in_front (a ∷ b ∷ c ∷ rest) = if is (codes "[") a && is (codes "]") c then option_map (λ n. (n, rest)) (bound_of b.text) else None

-- the same as its readers see it
abbrev pub seen_bounded : ℕ × Bor (List Token) → ℕ × List Token
seen_bounded p = (p.0, p.1.now)
