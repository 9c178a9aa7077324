-- What a source is read for.
use Rattle.std.specs.Prelude.{ℕ, ◌≤◌, Bool, true, false, List, ⊤}
use Rattle.mw_words.specs.Asked.{Asks}
use Rattle.mw_words.specs.declared.Asked.TheVariants as asked
use Rattle.mw_top.specs.declared.purpose.Purpose.{Purpose}
use Rattle.mw_top.specs.declared.purpose.Purpose.TheVariants.{Run, Check}

-- the words ask for it
abbrev pub AskFor : List (List ℕ) → Purpose → Type 0
AskFor words (Run options) = Asks words (asked.Run options)
AskFor words (Check max) = Asks words (asked.Check max)

-- whether each line outside a proof text is marked
abbrev pub is_noted : Purpose → Bool
is_noted (Run options) = options.proof
is_noted (Check max) = false

-- whether proofs are units of their own
abbrev pub takes_proofs : Purpose → Bool
takes_proofs (Run options) = false
takes_proofs (Check max) = true

-- a side of a condition may take a step
abbrev pub IsAllowed : Purpose → Type 0
IsAllowed (Run options) = ⊤
IsAllowed (Check max) = 1 ≤ max
