-- Numbers as tokens, and as entries have them.
use Rattle.std.specs.Prelude.{◌≡◌, ◌≢◌, ◌<◌, ◌≤◌, ◌+◌, ◌-◌, ◌*◌, ◌^◌, ◌&&◌, ℕ, zero, suc, min, nat_le, nat_lt, cond, Bool, if◌then◌else◌, List, [], ◌∷◌, map, length, Option, Some, None, codes, ⊤}
use Rattle.std.specs.Fmt.{decimal}
use Rattle.std.specs.Int.Digits.{digits_of}

-- the decimal digits of a number, of any size, without leading zeros
unfoldable pub number_text : ℕ → List ℕ
number_text zero = codes "0"
number_text (suc n) = map (λ d. 48 + d) (digits_of 10 (suc n))

-- A number as an entry tells it: one of 2^32 or more as 0, which no statement and no argument has.
abbrev pub entry_number : ℕ → ℕ
entry_number n = cond (nat_lt n (2 ^ 32)) n 0

-- each is above the one before it
abbrev pub Rises : List ℕ → Type 0
Rises [] = ⊤
Rises (n ∷ []) = ⊤
Rises (n ∷ m ∷ ns) = (n < m) × Rises (m ∷ ns)

-- what is taken is two arguments or more, by numbers that rise
abbrev pub IsTake : Option (List ℕ) → Type 0
IsTake None = ⊤
IsTake (Some ns) = (2 ≤ length ns) × Rises ns

-- A decimal digit; and the number that digits write behind another, as far as 64 bits tell it.
abbrev pub is_digit : ℕ → Bool
is_digit c = nat_le 48 c && nat_le c 57

abbrev pub saturated : ℕ → ℕ
saturated n = min n (2 ^ 64 - 1)

abbrev pub read_after : ℕ → List ℕ → Option ℕ
read_after n [] = Some n
read_after n (c ∷ cs) = if is_digit c then read_after (saturated (n * 10 + (c - 48))) cs else None

-- The token is the text of a number, as it is found.
abbrev pub IsNumber : List ℕ → ℕ → Type 0
IsNumber text found = (n : ℕ) × (text ≡ number_text n) × (found ≡ saturated n)

-- a text that doesn't begin with 0, or is that alone
abbrev pub IsLeading : List ℕ → Type 0
IsLeading [] = ⊥
IsLeading (c ∷ []) = ⊤
IsLeading (c ∷ d ∷ cs) = c ≢ 48

-- What is printed of a number of 64 digits at most is its text.
abbrev pub NumbersAreDecimal : Type 0
NumbersAreDecimal = (n : ℕ) → n < 10 ^ 64 → number_text n ≡ decimal n
