-- Open addressing: a number is found from its hash's slot on, before the first empty one. (Peterson 1957, "Addressing
-- for random-access storage".)
use Rattle.std.specs.Prelude.{◌≡◌, ◌<◌, ◌≤◌, ◌+◌, ◌-◌, ◌*◌, ◌/◌, ◌^◌, ℕ, List, length, get_or, cond, nat_lt}

-- where a hash's search begins, among so many slots
unfoldable pub home_of : ℕ → ℕ → ℕ
home_of count hash = hash * count / 2 ^ 32

-- the slot so many steps on, where the first comes behind the last
unfoldable pub place : ℕ → ℕ → ℕ → ℕ
place count home steps = cond (nat_lt steps (count - home)) (home + steps) (steps - (count - home))

abbrev pub probe : List ℕ → ℕ → ℕ → ℕ
probe slots hash steps = place (length slots) (home_of (length slots) hash) steps

-- what stands in a slot: 0 is none
abbrev pub slot : List ℕ → ℕ → ℕ
slot slots at = get_or slots at 0

-- none of the first steps meets an empty slot
abbrev pub AreFull : List ℕ → ℕ → ℕ → Type 0
AreFull slots hash steps = (k : ℕ) → k < steps → 0 < slot slots (probe slots hash k)

-- a number is found from its hash's slot on
pub record IsReached (slots : List ℕ) (hash number : ℕ) : Type 0 where
  pub steps : ℕ
  pub there : slot slots (probe slots hash steps) ≡ number
  pub before : AreFull slots hash steps

-- an empty slot is the first for a hash
pub record IsFree (slots : List ℕ) (hash at : ℕ) : Type 0 where
  pub steps : ℕ
  pub is : at ≡ probe slots hash steps
  pub inside : at < length slots
  pub empty : slot slots at ≡ 0
  pub before : AreFull slots hash steps

-- all numbers from 1 on are found by their hashes, and there are no others
pub record AreReached (slots hashes : List ℕ) : Type 0 where
  pub reached : (j : ℕ) → j < length hashes → IsReached slots (get_or hashes j 0) (j + 1)
  pub named : (at : ℕ) → slot slots at ≤ length hashes
