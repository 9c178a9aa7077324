use Rattle.std.proofs.Common.{◌≡◌, ◌*◌, ◌+◌, drop}
use Rattle.mw_logic.specs.NormalForm.{height, highest}
use Rattle.mw_term.specs.Raws.{raw_term, raw_terms}
use Rattle.mw_carry.proofs.Carrying.{AreCarriedTo, IsLeft}
use Rattle.mw_carry.proofs.carrier.Carrier.+carry.Given as goal

abbrev pub decreases-carry : goal.decreases-carry
decreases-carry l = 2 * height (raw_term l.term.now)

abbrev pub decreases-carry_all : goal.decreases-carry_all
decreases-carry_all l = 2 * highest (raw_terms l.terms.now) + 1

abbrev pub invariant-carry_all-loop-term : goal.invariant-carry_all-loop-term
invariant-carry_all-loop-term l = record {
  same : l.self ≡ l.fn.self;
  left : IsLeft l.fn.self.from (raw_terms (drop l.term-index l.terms));
  carried : AreCarriedTo l.fn.self.from l.fn.self.to (raw_terms l.terms) (raw_terms (drop l.term-index l.terms)) (raw_terms l.carried.items);
}
