-- The limits of a run by equations alone.
use Rattle.std.specs.Prelude.{ℕ, false, None}
use Rattle.mw_logic.specs.Ends.{Limits}

-- at most so many steps, and so many for each side of a condition
abbrev pub limits_within : ℕ → ℕ → Limits
limits_within most side = record { rules_too = false; bound = None; most = most; most_of_sides = side }
