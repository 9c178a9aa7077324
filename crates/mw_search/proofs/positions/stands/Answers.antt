use Rattle.std.proofs.Common.{◌∙◌, ap, sym}
use Rattle.std.specs.Prelude.{not}
use Rattle.mw_term.specs.Shapes.{viewed}
use Rattle.mw_matching.specs.Found.{stands}
use Rattle.mw_search.proofs.Elements.{stands_where}
use Rattle.mw_search.proofs.positions.stands.Goals as goal

pub returns-then-operator-top : goal.returns-then-operator-top
returns-then-operator-top c =
    ap not c.is_empty.ensures ∙ stands_where c.args.operator c.in-Op.top c.in-Op.args.now c.if-operator-top.true
    ∙ ap (stands c.args.operator) (sym (c.view.ensures ∙ ap viewed c.in-Op.is))
