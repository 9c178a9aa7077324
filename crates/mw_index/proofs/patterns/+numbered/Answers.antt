use Rattle.std.proofs.Common.{◌≡◌, arith, ap, subst}
use Rattle.mw_logic.specs.Term.{RawTerms}
use Rattle.mw_logic.specs.NormalForm.{highest}
use Rattle.mw_position.specs.Positions.{AreNumbered, counted_all}
use Rattle.mw_pattern.specs.Clean.{clean_all}
use Rattle.mw_match.proofs.Matching.{pattern_height}
use Rattle.mw_index.proofs.Walking.{numbers_first, numbers_more, numbers_end}
use Rattle.mw_index.proofs.patterns.+numbered.Goals as goal

pub all_numbered-numbered-requires : goal.all_numbered-numbered-requires
all_numbered-numbered-requires t c =
    let h = pattern_height _ _ _ c.loop-pattern-test.true c.pattern-item.is in
    let e : highest (clean_all c.slice-list.result.now) ≡ highest c.args.patterns.now = ap highest c.slice-list.ensures in
    omega (arith, h, e, c.decreases)

pub all_numbered-loop-pattern-init : goal.all_numbered-loop-pattern-init
all_numbered-loop-pattern-init t c = numbers_first _ _

pub all_numbered-loop-pattern-preserved : goal.all_numbered-loop-pattern-preserved
all_numbered-loop-pattern-preserved t c = numbers_more _ _ _ _ _ _ _ c.loop-pattern-test.true c.pattern-item.is c.in_ok-count.ensures.0 c.in_ok-count.ensures.1 c.loop-pattern.invariant

pub all_numbered-returns : goal.all_numbered-returns
all_numbered-returns t c =
    let P : RawTerms → Type 0 = λ ps. AreNumbered c.args.before ps × (c.loop-pattern.count ≡ counted_all c.args.before ps) in
    subst P c.slice-list.ensures (numbers_end _ _ _ _ _ c.loop-pattern-test.false c.loop-pattern.invariant)
