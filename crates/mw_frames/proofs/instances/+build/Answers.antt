use Rattle.std.proofs.Common.{◌≡◌, ◌∙◌, get_or, arith, ap}
use Rattle.mw_logic.specs.NormalForm.{height, highest}
use Rattle.mw_matching.specs.Matches.{evaluated_all}
use Rattle.mw_logic.specs.Terms.{terms_of}
use Rattle.mw_pattern.specs.Clean.{clean, clean_all}
use Rattle.mw_frames.proofs.Evaluating.{pattern_height, evaluated_more, evaluated_end}
use Rattle.mw_frames.proofs.SmallValues.{value_told, applied_told, one_told}
use Rattle.mw_frames.proofs.instances.+build.Goals as goal

pub build-returns-in_ok-value-in-Var-clause-told : goal.build-returns-in_ok-value-in-Var-clause-told
build-returns-in_ok-value-in-Var-clause-told t c = λ small. value_told c.args.facts.now c.args.values.now c.in-Var.i c.args.large.now c.in_ok-value-in-Var.value c.in_ok-value-in-Var.ensures small

pub build-returns-in_ok-term-in-Op-clause-told : goal.build-returns-in_ok-term-in-Op-clause-told
build-returns-in_ok-term-in-Op-clause-told t c = λ small.
    applied_told c.args.facts.now c.shows.ensures c.in-Op.operator (terms_of c.in_ok-made-in-Op.made.items) c.args.large.now c.all_built.new.large c.note_largest.new.large c.in_ok-term-in-Op.term (c.in_ok-made-in-Op.ensures.told small) (rw c.as_slice.ensures.value at c.note_largest.ensures) c.in_ok-term-in-Op.ensures

pub all_built-build-requires : goal.all_built-build-requires
all_built-build-requires t c =
    let h = pattern_height c.slice-list.result.now c.loop-pattern.pattern-index c.pattern-item.result c.loop-pattern-test.true in
    let e : height (clean c.pattern-item.result) ≡ height (clean (get_or c.slice-list.result.now c.loop-pattern.pattern-index c.pattern-item.result)) = ap (λ p. height (clean p)) c.pattern-item.is in
    let k : highest (clean_all c.slice-list.result.now) ≡ highest c.args.patterns.now = ap highest c.slice-list.ensures in
    (omega (arith, h, e, k, c.decreases), tt)

pub all_built-loop-pattern-preserved : goal.all_built-loop-pattern-preserved
all_built-loop-pattern-preserved t c = (
  evaluated_more c.args.facts.now c.args.values.now c.slice-list.result.now c.loop-pattern.pattern-index c.pattern-item.result c.loop-pattern.made.items c.push.new.self.items c.in_ok-term.term _ c.loop-pattern-test.true
      c.pattern-item.is c.in_ok-push.ensures.items c.in_ok-term.ensures.term c.loop-pattern.invariant.0,
  λ small. one_told c.args.facts.now c.loop-pattern.made.items c.push.new.self.items c.in_ok-term.term c.args.large.now c.loop-pattern.large c.build.new.large (c.loop-pattern.invariant.1 small) (c.in_ok-term.ensures.told small) c.in_ok-push.ensures.items,
)

pub all_built-returns-clause-term : goal.all_built-returns-clause-term
all_built-returns-clause-term t c =
    evaluated_end c.args.facts.now c.args.values.now c.slice-list.result.now c.loop-pattern.pattern-index c.loop-pattern.made.items _ c.loop-pattern-test.false c.loop-pattern.invariant.0
    ∙ ap (evaluated_all c.args.facts.now c.args.values.now) c.slice-list.ensures
