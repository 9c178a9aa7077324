use Rattle.std.proofs.Common.{◌≡◌, take, drop}
use Rattle.mw_logic.specs.Terms.{terms_of}
use Rattle.mw_logic.specs.TermOrder.{sorted_terms}
use Rattle.mw_gather.specs.Gatherings.{IsTakingOut, StandAmong}
use Rattle.mw_gather.proofs.gathering.take_out.Given as goal

abbrev pub invariant-loop-term : goal.invariant-loop-term
invariant-loop-term l = record {
  out : IsTakingOut (terms_of l.fn.elements.items) (terms_of (take l.term-index l.some)) l.numbers.items l.from (terms_of l.elements.items);
  among : StandAmong (drop l.term-index l.some) (drop l.from l.elements.items);
  order : sorted_terms (terms_of l.elements.items) ≡ terms_of l.elements.items;
}
