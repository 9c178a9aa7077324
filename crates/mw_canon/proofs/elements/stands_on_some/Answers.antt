use Rattle.std.proofs.Common.{◌≡◌, ◌∙◌, ap}
use Rattle.mw_logic.specs.Term.{apply}
use Rattle.mw_logic.specs.Terms.{terms_of}
use Rattle.mw_term.specs.Shapes.{viewed}
use Rattle.mw_canon.proofs.Listing.{own_where}
use Rattle.mw_canon.proofs.elements.stands_on_some.Goals as goal

pub returns-then-f-operator : goal.returns-then-f-operator
returns-then-f-operator c =
    let t : c.args.term.now ≡ apply c.in-Op.f (terms_of c.in-Op.args.now) = c.view.ensures ∙ ap viewed c.in-Op.is in
    rw (t, c.is_empty.ensures) (own_where c.args.operator c.in-Op.f c.in-Op.args.now c.if-f-operator.true)
