-- Units as they are gathered, one after the other.
use Rattle.std.specs.Prelude.{◌≡◌, ◌≢◌, ℕ, List, [], ◌∷◌, ◌++◌, Some, if◌then◌else◌}
use Rattle.mw_logic.specs.Signature.{Member}
use Rattle.mw_import.specs.Flat.{FlatUnit, number_named, brought_by, is_among}

-- a unit behind those that are there, unless it is among them
abbrev pub gathered_with : List ℕ → ℕ → List ℕ
gathered_with there k = if is_among k there then there else there ++ k ∷ []

-- these units, one after the other, behind those that are there
abbrev pub gathered : List ℕ → List ℕ → List ℕ
gathered there [] = there
gathered there (k ∷ ks) = gathered (gathered_with there k) ks

-- with each of these units, all that it brings is there
abbrev pub IsClosed : List FlatUnit → List ℕ → Type 0
IsClosed us there = (j : ℕ) → Member j there → (i : ℕ) → Member i (brought_by us j) → Member i there

-- the import is of the unit with this number, and not of the module in which it stands
abbrev pub IsOf : List FlatUnit → List ℕ → List ℕ → ℕ → Type 0
IsOf us own name k = (name ≢ own) × (number_named us name ≡ Some k)
