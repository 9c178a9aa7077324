use Rattle.std.proofs.Common.{◌≡◌, ◌∙◌, ◌≤◌, ◌<◌, length, get_or, arith, ap}
use Rattle.mw_logic.specs.NormalForm.{height, highest}
use Rattle.mw_logic.specs.Terms.{terms_of}
use Rattle.mw_term.proofs.Terms.{element}
use Rattle.mw_compile.proofs.ByPosition.{among_next}
use Rattle.mw_index.proofs.Walking.{pattern_more, pattern_all}
use Rattle.mw_index.proofs.patterns.+pattern.Goals as goal

pub patterns_of-pattern_of-requires : goal.patterns_of-pattern_of-requires
patterns_of-pattern_of-requires t c =
    let l : c.loop-term.term-index < length c.args.terms.now = c.loop-term-test.true in
    let h : height (get_or c.args.terms.now c.loop-term.term-index c.term-item.result) ≤ highest (terms_of c.args.terms.now) = element _ _ _ l in
    let e : height c.term-item.result ≡ height (get_or c.args.terms.now c.loop-term.term-index c.term-item.result) = ap height c.term-item.is in
    (omega (arith, h, e, c.decreases), (among_next c.args.places.now c.args.terms.now c.loop-term.term-index c.term-item.result c.loop-term-test.true c.term-item.is c.loop-term.invariant.0).0)

pub patterns_of-loop-term-preserved : goal.patterns_of-loop-term-preserved
patterns_of-loop-term-preserved t c = (
  (among_next c.args.places.now c.args.terms.now c.loop-term.term-index c.term-item.result c.loop-term-test.true c.term-item.is c.loop-term.invariant.0).1,
  pattern_more _ _ _ _ _ _ _ _ c.loop-term-test.true c.term-item.is c.in_ok-push.ensures.items c.in_ok-pattern.ensures c.loop-term.invariant.1,
)

pub patterns_of-returns : goal.patterns_of-returns
patterns_of-returns t c = c.new.ensures ∙ pattern_all _ _ _ _ _ c.loop-term-test.false c.loop-term.invariant.1
