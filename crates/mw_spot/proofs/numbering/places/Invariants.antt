use Rattle.std.proofs.Common.{◌≡◌, take, reverse, All}
use Rattle.mw_spot.specs.Walks.{IsOrderly}
use Rattle.mw_spot.specs.Spots.{places}
use Rattle.mw_spot.proofs.numbering.places.Given as goal

abbrev pub invariant-loop-level : goal.invariant-loop-level
invariant-loop-level l = All (IsOrderly l.facts) l.levels → l.before ≡ places l.facts (reverse (take l.level-index l.levels)) l.term
