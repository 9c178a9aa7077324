use Rattle.std.proofs.Common.{◌≡◌, ◌∙◌, ◌-◌, get_or, ap}
use Rattle.mw_logic.specs.Signature.{Signature, Operator}
use Rattle.mw_build.proofs.Naming.{named_so, operator_there}
use Rattle.mw_build.proofs.signature.operator_name.Goals as goal

pub returns : goal.returns
returns c = λ o is.
    let found : Operator = c.index-as_slice-operator.result in
    let operators = c.as_slice.ensures ∙ ap (λ (s : Signature). s.operators) c.signature.view_is in
    let at : found ≡ get_or c.args.signature.now.operators (c.args.operator - 1) found = c.index-as_slice-operator.is ∙ ap (λ os. get_or os (c.args.operator - 1) found) operators in
    named_so c.copy_name.result (ap (λ (p : Operator). p.spelling) (c.found.view_is ∙ operator_there c.args.signature.now.operators c.args.operator found o at is)) c.copy_name.ensures
