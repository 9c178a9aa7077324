use Rattle.std.proofs.Common.{◌≡◌, arith, ap, subst}
use Rattle.mw_logic.specs.NormalForm.{highest}
use Rattle.mw_match.proofs.Matching.{pattern_height}
use Rattle.mw_pattern.specs.Clean.{clean_all}
use Rattle.mw_match.specs.Straight.{AreStraight}
use Rattle.mw_canon.specs.Free.{AreFree}
use Rattle.mw_index.proofs.Walking.{free_more, free_end, straight_more, straight_end}
use Rattle.mw_index.proofs.patterns.+free.Goals as goal

pub are_free-is_free-requires : goal.are_free-is_free-requires
are_free-is_free-requires t c =
    let h = pattern_height _ _ _ c.loop-pattern-test.true c.pattern-item.is in
    let e : highest (clean_all c.slice-list.result.now) ≡ highest c.args.patterns.now = ap highest c.slice-list.ensures in
    omega (arith, h, e, c.decreases)

pub are_free-loop-pattern-init : goal.are_free-loop-pattern-init
are_free-loop-pattern-init t c = ((λ s h. h), (λ h. h))

pub are_free-loop-pattern-preserved : goal.are_free-loop-pattern-preserved
are_free-loop-pattern-preserved t c = (
  (λ s. free_more _ _ _ _ _ c.loop-pattern-test.true c.pattern-item.is (c.is_free.ensures.free s c.if-not-is_free.false) (c.loop-pattern.invariant.0 s)),
  straight_more _ _ _ _ _ c.loop-pattern-test.true c.pattern-item.is (c.is_free.ensures.straight c.if-not-is_free.false) c.loop-pattern.invariant.1,
)

pub are_free-returns-clause-free : goal.are_free-returns-clause-free
are_free-returns-clause-free t c = λ s h. subst (AreFree c.args.facts.now) c.slice-list.ensures (free_end _ _ _ _ c.loop-pattern-test.false (c.loop-pattern.invariant.0 s))

pub are_free-returns-clause-straight : goal.are_free-returns-clause-straight
are_free-returns-clause-straight t c = λ h. subst (AreStraight c.args.facts.now) c.slice-list.ensures (straight_end _ _ _ _ c.loop-pattern-test.false c.loop-pattern.invariant.1)
