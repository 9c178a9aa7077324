use Rattle.std.proofs.Common.{◌≡◌, map, take, reverse, All}
use Rattle.mw_logic.specs.Terms.{terms_of}
use Rattle.mw_spot.specs.Walks.{IsOrderly}
use Rattle.mw_spot.specs.Spots.{places, number_of}
use Rattle.mw_spot.proofs.numbering.some_numbers.Given as goal

abbrev pub invariant-loop-k : goal.invariant-loop-k
invariant-loop-k l = All (IsOrderly l.facts) l.levels → l.found.items ≡ map (number_of (places l.facts (reverse l.levels)) (terms_of l.terms)) (take l.k-index l.numbers)
