-- What holds of the parts that are read by the table.
use Rattle.std.specs.Prelude.{◌≡◌, ◌≤◌, ℕ, true, List, [], ◌∷◌, length, All, Ok}
use Rattle.mw_lex.specs.declared.token.Token.{Token}
use Rattle.mw_module.specs.declared.machine.Part.{Part}
use Rattle.mw_module.specs.declared.table.Place.{Place}
use Rattle.mw_module.specs.declared.table.Role.{Role}
use Rattle.mw_module.specs.declared.table.Want.{Want}
use Rattle.mw_module.specs.Reading.{tokens_of, is_fine, read_at}

-- one part after the other, from one place on up to another: they don't overlap
abbrev pub Ascend : ℕ → List Part → ℕ → Type 0
Ascend a [] b = a ≤ b
Ascend a (p ∷ ps) b = (a ≤ p.from) × ((p.from ≤ p.to) × Ascend p.to ps b)

abbrev pub IsFine : List Token → Want → Part → Type 0
IsFine ts want p = is_fine want p.role (tokens_of ts p) ≡ true

-- each part is such as is wanted, and they stand one after the other among the tokens
pub record AreParts (ts : List Token) (want : Want) (parts : List Part) : Type 0 where
  pub fine : All (IsFine ts want) parts
  pub ascend : Ascend 0 parts (length ts)

-- The parts of a piece are such, whatever the table says.
abbrev pub PartsAscend : Type 0
PartsAscend = (place : Place) (role : Role) (want : Want) (ts : List Token) (parts : List Part) → read_at place role want ts ≡ Ok parts → AreParts ts want parts
