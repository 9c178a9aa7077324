use Rattle.std.proofs.Common.{rules, ◌≡◌, ◌∙◌, ap}
use Rattle.mw_logic.specs.Term.{apply}
use Rattle.mw_logic.specs.Terms.{terms_of}
use Rattle.mw_term.specs.Shapes.{viewed}
use Rattle.mw_stack.proofs.LongLists.{some_of}
use Rattle.mw_stack.proofs.closing.stands_on_some.Goals as goal

pub returns-then-f-operator : goal.returns-then-f-operator
returns-then-f-operator c = λ h.
    let t : c.args.term.now ≡ apply c.in-Op.f (terms_of c.in-Op.args.now) = c.view.ensures ∙ ap viewed c.in-Op.is in
    rw (t, c.if-f-operator.true) (some_of c.args.operator c.in-Op.args.now (search rules))
