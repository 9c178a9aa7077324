use Rattle.std.proofs.Common.{◌∙◌, ap, is_gt}
use Rattle.mw_stack.proofs.Fitting.{before_by_test}
use Rattle.mw_stack.proofs.nearby.goes_before.Goals as goal

pub returns-in-Some : goal.returns-in-Some
returns-in-Some c = λ h.
    before_by_test c.args.terms.now c.args.term.now c.in-Some.other.now c.args.place c.is_gt.result (c.in-Some.ensures.lookup.1) (c.is_gt.ensures ∙ ap is_gt c.compare.ensures) h
