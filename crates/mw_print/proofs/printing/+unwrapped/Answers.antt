use Rattle.std.proofs.Common.{◌∙◌, ap}
use Rattle.mw_term.specs.Shapes.{viewed}
use Rattle.mw_print.proofs.Shown.{not_single_count}
use Rattle.mw_print.proofs.printing.+unwrapped.Goals as goal

pub returns-then-args-ne1-clause-none : goal.returns-then-args-ne1-clause-none
returns-then-args-ne1-clause-none t c =
    not_single_count c.args.signature.now c.args.term.now c.in-Op.number c.in-Op.args.now (c.view.ensures ∙ ap viewed c.in-Op.is) c.if-args-ne1.true
