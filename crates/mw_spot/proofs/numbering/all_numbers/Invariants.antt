use Rattle.std.proofs.Common.{◌≡◌, ◌+◌, ◌++◌, drop, reverse, All}
use Rattle.mw_logic.specs.Terms.{terms_of}
use Rattle.mw_spot.specs.Walks.{IsOrderly}
use Rattle.mw_spot.specs.Spots.{places, numbers}
use Rattle.mw_spot.proofs.numbering.all_numbers.Given as goal

abbrev pub invariant-loop-i : goal.invariant-loop-i
invariant-loop-i l = All (IsOrderly l.facts) l.levels
    → l.found.items ++ numbers (places l.facts (reverse l.levels)) (l.i + 1) (terms_of (drop l.i l.terms)) ≡ numbers (places l.facts (reverse l.levels)) 1 (terms_of l.terms)
