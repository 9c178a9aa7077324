-- Sets of places as words of 64 bits.
use Rattle.std.specs.Prelude.{ℕ, ◌≡◌, ◌-◌, ◌*◌, ◌/◌, ◌%◌, ◌<◌, ◌↔◌, List, length, slice_index}
use Rattle.std.specs.Int.{bit_at}

-- the set has the place
abbrev pub HasPlace : List ℕ → ℕ → Type 0
HasPlace words i = bit_at (slice_index words (i / 64)) (i % 64) ≡ 1

-- the words have a bit for each member; it is set where the member has the mark
pub record MarkedPlaces (mark : ℕ) (marks members words : List ℕ) : Type 0 where
  pub room : length members < 64 * length words
  pub exact : (i : ℕ) → i < length members → HasPlace words i ↔ (slice_index marks (slice_index members i - 1) ≡ mark)
