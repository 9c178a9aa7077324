-- The rows of a parse's matches.
use Rattle.std.proofs.Common.{◌≡◌, ℕ, List}
use Rattle.clap.specs.Walk.{first_of, rows_of}
use Rattle.clap.specs.Matches.{first_value}
use Rattle.clap.specs.declared.parser.matches.Found.{Found}
use Rattle.clap.proofs.WalkLemmas.{first_value-rows}

-- the getter's value is the first of the row
pub first_value_rows : (f : Found) (id : List ℕ) → first_value f id ≡ first_of id (rows_of f)
first_value_rows f id = first_value-rows f id
