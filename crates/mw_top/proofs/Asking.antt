-- What is known of what words ask for.
use Rattle.std.proofs.Common.{◌≤◌, ℕ, List, Option, None, Some, arith}
use Rattle.mw_words.specs.Asked.{Asks, IsValue}
use Rattle.mw_words.specs.declared.Asked.TheVariants.{Check}

-- a check's limit is a step at least
pub most_allowed : (words : List (List ℕ)) (max : ℕ) → Asks words (Check max) → 1 ≤ max
most_allowed words max (rows, is, most) = of _ most
  where
    of : (o : Option (List ℕ)) → IsValue 1 10000000 1000000 o max → 1 ≤ max
    of None e = omega (arith, e)
    of (Some text) h = h.least
