use Rattle.std.specs.Prelude.{[], ◌<◌, length, MatchOption, ⊤}
use Rattle.mw_logic.specs.Terms.{terms_of}
use Rattle.mw_search.specs.Lacking.{Skips}
use Rattle.mw_match.specs.Levels.{taken_by, choices_from, ClashesAt}
use Rattle.mw_match.proofs.levels.next_choice.Given as goal

abbrev pub invariant-loop-i : goal.invariant-loop-i
invariant-loop-i l =
    MatchOption l.last ⊤ (λ i. i < length l.elements)
    × Skips (ClashesAt l.facts l.values l.pattern) (choices_from (terms_of l.elements) (taken_by [] l.below) l.fn.before l.fn.from) (choices_from (terms_of l.elements) (taken_by [] l.below) l.last l.i)
