-- A proof as the list of its replacements, in order, each at its place.
use Rattle.std.specs.Prelude.{List, [], ◌∷◌, ◌++◌}
use Rattle.mw_logic.specs.Proof.{Proof, reflexivity, transitivity}
use Rattle.mw_deduction.specs.Places.{Place, step_at}

pub record Replacement : Type 0 where
  pub place : Place
  pub step : Proof

abbrev pub proof_of : List Replacement → Proof
proof_of [] = reflexivity
proof_of (r ∷ rs) = transitivity (step_at r.place r.step) (proof_of rs)

-- with a place round it
abbrev pub within : Place → Replacement → Replacement
within ls r = record { place = r.place ++ ls; step = r.step }
