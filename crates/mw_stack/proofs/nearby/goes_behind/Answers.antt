use Rattle.std.proofs.Common.{◌∙◌, ap, sym, is_gt}
use Rattle.std.proofs.lemmas.Bool.{ltb-true}
use Rattle.mw_stack.proofs.Fitting.{behind_by_test}
use Rattle.mw_stack.proofs.nearby.goes_behind.Goals as goal

pub returns-in-Some-clause-behind : goal.returns-in-Some-clause-behind
returns-in-Some-clause-behind c = λ h.
    behind_by_test c.args.terms.now c.args.term.now c.in-Some.other.now c.args.place c.is_gt.result (ltb-true _ _ (sym (c.in-Some.ensures.lookup.0))) (c.in-Some.ensures.lookup.1) (c.is_gt.ensures ∙ ap is_gt c.compare.ensures) h
