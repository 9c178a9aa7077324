use Rattle.std.proofs.Common.{◌≡◌, ◌∙◌, ◌+◌, ap, sym}
use Rattle.std.proofs.lemmas.Bool.{eqb-true}
use Rattle.mw_logic.specs.Term.{Variable, cons}
use Rattle.mw_logic.specs.Terms.{args_of, skip}
use Rattle.mw_term.specs.Shapes.{viewed}
use Rattle.mw_search.proofs.Meeting.{at_args}
use Rattle.mw_search.proofs.shares.is_variable_at.Goals as goal

pub returns-in-Var : goal.returns-in-Var
returns-in-Var c = λ w.
    let k = c.in-Some.ensures.lookup in
    let p = c.args.pattern.now in
    let x : Variable = c.in-Var.x.now in
    let is = c.view.ensures ∙ ap viewed c.in-Var.is in
    let at = at_args p c.in-Some.argument.now c.arguments.result.now c.args.at c.arguments.ensures k.3.0 k.1 in
    let sort : c.x.inside.sort ≡ c.args.position = eqb-true _ _ w in
    let seen = c.x.view_is in
    (x, skip (c.args.at + 1) (args_of p), at ∙ ap (λ t. cons t (skip (c.args.at + 1) (args_of p))) is, ap (λ (y : Variable). y.sort) (sym seen) ∙ sort)
