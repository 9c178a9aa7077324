use Rattle.std.proofs.Common.{◌≡◌, ◌∙◌, Some, ap, sym}
use Rattle.mw_logic.specs.Term.{apply}
use Rattle.mw_logic.specs.Signature.{Operator}
use Rattle.mw_logic.specs.Terms.{terms_of}
use Rattle.mw_term.specs.Shapes.{viewed}
use Rattle.mw_print.specs.Printing.{precedence_of, shown}
use Rattle.mw_print.proofs.Shown.{plain_precedence, joint_precedence}
use Rattle.mw_print.proofs.printing.+precedence.Goals as goal

pub returns-then-not-operator : goal.returns-then-not-operator
returns-then-not-operator t c =
    let sig = c.args.signature.now in
    let is : c.args.term.now ≡ apply c.in-Op.number (terms_of c.in-Op.args.now) = c.view.ensures ∙ ap viewed c.in-Op.is in
    let assoc = ap (λ (o : Operator). o.assoc) (sym c.operator.view_is) ∙ c.if-not-operator.true in
    c.precedence_on.ensures ∙ plain_precedence sig c.in-Op.number c.in-Some.operator.now c.in-Some.ensures assoc c.in-Op.args.now ∙ ap (λ t. (shown sig t).precedence) (sym is)

pub returns : goal.returns
returns t c =
    let sig = c.args.signature.now in
    let o = c.in-Some.operator.now in
    let is : c.args.term.now ≡ apply c.in-Op.number (terms_of c.in-Op.args.now) = c.view.ensures ∙ ap viewed c.in-Op.is in
    let assoc = ap (λ (o : Operator). o.assoc) (sym c.operator.view_is) ∙ c.if-not-operator.false in
    c.precedence_on-2.ensures ∙ ap (precedence_of (Some o)) c.min.ensures ∙ joint_precedence sig c.in-Op.number o c.in-Some.ensures assoc c.in-Op.args.now c.if-args-eq1.false
    ∙ ap (λ t. (shown sig t).precedence) (sym is)
