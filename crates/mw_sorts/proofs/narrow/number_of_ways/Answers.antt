use Rattle.std.proofs.Common.{ap, sym, ◌∙◌, arith, length}
use Rattle.mw_logic.specs.Signature.{Operator}
use Rattle.mw_sorts.proofs.Ways.{ways-number, ways-both}
use Rattle.mw_sorts.proofs.narrow.number_of_ways.Goals as goal

pub returns-then-operator : goal.returns-then-operator
returns-then-operator c =
    let e = ap length (c.as_slice-declarations.ensures ∙ ap (λ (o : Operator). o.declarations) c.operator.view_is) in
    let n = ways-both c.args.operator.now (sym (ap (λ (o : Operator). o.comm) c.operator.view_is) ∙ c.if-operator.true) in
    omega (arith, e, n)

pub returns-else-operator : goal.returns-else-operator
returns-else-operator c =
    let e = ap length (c.as_slice-declarations.ensures ∙ ap (λ (o : Operator). o.declarations) c.operator.view_is) in
    let n = ways-number c.args.operator.now (sym (ap (λ (o : Operator). o.comm) c.operator.view_is) ∙ c.if-operator.false) in
    omega (arith, e, n)
