use Rattle.std.proofs.Common.{◌∙◌, ap}
use Rattle.mw_term.specs.Shapes.{viewed}
use Rattle.mw_redex.proofs.Opened.{way_goes_on, way_ends}
use Rattle.mw_redex.proofs.opening.+is_open.Goals as goal

pub returns-in-Some : goal.returns-in-Some
returns-in-Some t c =
    way_goes_on c.args.facts.now c.args.path.now c.args.term.now c.in-Op.operator c.in-Op.args.now c.in-Some.argument.now c.in-len1-up.len_at_least (c.view.ensures ∙ ap viewed c.in-Op.is)
    (c.is_open_argument.ensures.0 c.if-not-is_open_argument.false) c.in-Some.ensures c.is_open.result c.is_open.ensures

pub returns-in-None : goal.returns-in-None
returns-in-None t c =
    way_ends c.args.facts.now c.args.path.now c.args.term.now c.in-Op.operator c.in-Op.args.now c.in-len1-up.len_at_least (c.view.ensures ∙ ap viewed c.in-Op.is)
    (c.is_open_argument.ensures.0 c.if-not-is_open_argument.false) c.in-None.ensures
