use Rattle.std.proofs.Common.{◌≡◌, ◌∙◌, ap, subst}
use Rattle.mw_logic.specs.Parts.{nested}
use Rattle.mw_logic.specs.NormalForm.{normal_form}
use Rattle.mw_logic.specs.Sorts.{HasSort}
use Rattle.mw_logic.specs.Signature.{sort, IsRawTerm}
use Rattle.mw_logic.specs.Terms.{terms_of}
use Rattle.mw_term.specs.Shapes.{viewed}
use Rattle.mw_least.proofs.context.Ctx.may_have.Goals as goal

pub returns-in-Op : goal.returns-in-Op
returns-in-Op c =
    let sig = c.args.self.now.signature in
    let applied = c.view.ensures ∙ ap viewed c.in-Op.is in
    λ fixed raw h. c.may_give.ensures.had (terms_of c.in-Op.field-1.now)
    (subst (λ u. normal_form sig (nested sig u) ≡ u) applied fixed) (subst (λ u. IsRawTerm sig (nested sig u)) applied raw) (subst (λ u. HasSort sig (nested sig u) (sort c.args.sort)) applied h)
