use Rattle.std.proofs.Common.{◌≡◌, ◌≤◌, ◌<◌, length, get_or, arith, ap}
use Rattle.mw_logic.specs.NormalForm.{height, highest}
use Rattle.mw_logic.specs.Terms.{terms_of}
use Rattle.mw_term.proofs.Terms.{element}
use Rattle.mw_compile.proofs.ByPosition.{among_next, placed_more, placed_end}
use Rattle.mw_compile.proofs.placing.+placed.Goals as goal

pub all_by_position-by_position-requires : goal.all_by_position-by_position-requires
all_by_position-by_position-requires t c =
    let l : c.loop-term.term-index < length c.args.terms.now = c.loop-term-test.true in
    let h : height (get_or c.args.terms.now c.loop-term.term-index c.term-item.result) ≤ highest (terms_of c.args.terms.now) = element _ _ _ l in
    let e : height c.term-item.result ≡ height (get_or c.args.terms.now c.loop-term.term-index c.term-item.result) = ap height c.term-item.is in
    (omega (arith, h, e, c.decreases), (among_next c.args.places.now c.args.terms.now c.loop-term.term-index c.term-item.result c.loop-term-test.true c.term-item.is c.loop-term.invariant.among).0)

pub all_by_position-loop-term-preserved : goal.all_by_position-loop-term-preserved
all_by_position-loop-term-preserved t c = record {
  among = (among_next c.args.places.now c.args.terms.now c.loop-term.term-index c.term-item.result c.loop-term-test.true c.term-item.is c.loop-term.invariant.among).1;
  made = placed_more c.args.places.now c.args.terms.now c.loop-term.term-index c.term-item.result c.in_ok-term.term c.loop-term.made.items c.push.new.self.items c.loop-term-test.true c.term-item.is c.in_ok-term.ensures c.in_ok-push.ensures.items c.loop-term.invariant.made;
}

pub all_by_position-returns : goal.all_by_position-returns
all_by_position-returns t c = placed_end c.args.places.now c.args.terms.now c.loop-term.term-index c.loop-term.made.items c.loop-term-test.false c.loop-term.invariant.made
