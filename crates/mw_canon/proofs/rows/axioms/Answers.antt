use Rattle.std.proofs.Common.{◌≡◌, ◌∙◌, ◌+◌, ap, sym, true, false}
use Rattle.mw_logic.specs.Signature.{Signature, Operator, IsOperator}
use Rattle.mw_logic.specs.Parts.{is_assoc}
use Rattle.mw_canon.proofs.Reading.{operator_at, assoc_is, comm_is, comm_not_successor}
use Rattle.mw_canon.proofs.rows.axioms.Goals as goal

pub returns-then-operator-2 : goal.returns-then-operator-2
returns-then-operator-2 c =
    let sig : Signature = c.args.signature.now in
    let o : Operator = c.index-as_slice-index.result in
    let is : IsOperator sig (c.args.index + 1) o = operator_at sig c.as_slice.result.now c.args.index o (c.as_slice.ensures ∙ ap (λ (s : Signature). s.operators) c.signature.view_is) c.requires.there c.index-as_slice-index.is in
    let assoc : is_assoc sig (c.args.index + 1) ≡ false = assoc_is sig (c.args.index + 1) o is ∙ ap (λ (p : Operator). p.assoc) (sym c.operator.view_is) ∙ c.if-operator.false in
    let comm : o.comm ≡ true = ap (λ (p : Operator). p.comm) (sym c.operator.view_is) ∙ c.if-operator-2.true in
    (assoc, comm_is sig (c.args.index + 1) o is ∙ comm, comm_not_successor sig (c.args.index + 1) o is c.requires.accepted comm)

pub returns-then-is_successor : goal.returns-then-is_successor
returns-then-is_successor c =
    let sig : Signature = c.args.signature.now in
    let o : Operator = c.index-as_slice-index.result in
    let is : IsOperator sig (c.args.index + 1) o = operator_at sig c.as_slice.result.now c.args.index o (c.as_slice.ensures ∙ ap (λ (s : Signature). s.operators) c.signature.view_is) c.requires.there c.index-as_slice-index.is in
    let assoc : is_assoc sig (c.args.index + 1) ≡ false = assoc_is sig (c.args.index + 1) o is ∙ ap (λ (p : Operator). p.assoc) (sym c.operator.view_is) ∙ c.if-operator.false in
    (assoc, comm_is sig (c.args.index + 1) o is ∙ ap (λ (p : Operator). p.comm) (sym c.operator.view_is) ∙ c.if-operator-2.false, sym c.is_successor.ensures ∙ c.if-is_successor.true)

pub returns : goal.returns
returns c =
    let sig : Signature = c.args.signature.now in
    let o : Operator = c.index-as_slice-index.result in
    let is : IsOperator sig (c.args.index + 1) o = operator_at sig c.as_slice.result.now c.args.index o (c.as_slice.ensures ∙ ap (λ (s : Signature). s.operators) c.signature.view_is) c.requires.there c.index-as_slice-index.is in
    let assoc : is_assoc sig (c.args.index + 1) ≡ false = assoc_is sig (c.args.index + 1) o is ∙ ap (λ (p : Operator). p.assoc) (sym c.operator.view_is) ∙ c.if-operator.false in
    (assoc, comm_is sig (c.args.index + 1) o is ∙ ap (λ (p : Operator). p.comm) (sym c.operator.view_is) ∙ c.if-operator-2.false, sym c.is_successor.ensures ∙ c.if-is_successor.false)
