use Rattle.std.proofs.Common.{◌∙◌, ap}
use Rattle.mw_term.specs.Shapes.{viewed}
use Rattle.mw_print.proofs.Shown.{other_own}
use Rattle.mw_print.proofs.printing.own_args.Goals as goal

pub returns-then-operator-number-clause-none : goal.returns-then-operator-number-clause-none
returns-then-operator-number-clause-none c sig single =
    other_own sig c.args.number c.in-Op.operator c.args.term.now c.in-Op.args.now (c.view.ensures ∙ ap viewed c.in-Op.is) c.if-operator-number.true single
