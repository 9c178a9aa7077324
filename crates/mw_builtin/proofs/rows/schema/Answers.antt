use Rattle.std.proofs.Common.{◌≡◌, ◌∙◌, ◌+◌, ap, sym, subst}
use Rattle.std.specs.Prelude.{◌⊎◌}
use Rattle.std.proofs.lemmas.Bool.{both_ways}
use Rattle.mw_logic.specs.Signature.{Signature, Operator, IsOperator}
use Rattle.mw_canon.proofs.Reading.{operator_at}
use Rattle.mw_builtin.specs.Spellings.{IsSpelled}
use Rattle.mw_builtin.specs.declared.schema.Schema.TheVariants.{Nothing}
use Rattle.mw_builtin.proofs.Naming.{has_sorts, schema_is, no_schema}
use Rattle.mw_builtin.proofs.rows.schema.Goals as goal

pub computes-requires-clause-sorts : goal.computes-requires-clause-sorts
computes-requires-clause-sorts c =
    let sig : Signature = c.args.signature.now in
    let o : Operator = c.index-as_slice-index.result in
    let is : IsOperator sig (c.args.index + 1) o = operator_at sig c.as_slice.result.now c.args.index o (c.as_slice.ensures ∙ ap (λ (s : Signature). s.operators) c.signature.view_is) c.requires.there c.index-as_slice-index.is in
    has_sorts sig c.args.order.now c.requires.order c.requires.sorts (c.args.index + 1) o is

pub returns-then-computes : goal.returns-then-computes
returns-then-computes c =
    let sig : Signature = c.args.signature.now in
    let o : Operator = c.index-as_slice-index.result in
    let is : IsOperator sig (c.args.index + 1) o = operator_at sig c.as_slice.result.now c.args.index o (c.as_slice.ensures ∙ ap (λ (s : Signature). s.operators) c.signature.view_is) c.requires.there c.index-as_slice-index.is in
    let name : c.as_slice-2.result.now ≡ o.spelling = c.as_slice-2.ensures ∙ ap (λ (p : Operator). p.spelling) c.operator.view_is in
    schema_is sig (c.args.index + 1) o is c.spelled-schema.result (subst (λ x. (c.spelled-schema.result ≡ Nothing) ⊎ IsSpelled c.spelled-schema.result x) name c.spelled-schema.ensures.is)
    (λ other d. c.spelled-schema.ensures.only other (subst (IsSpelled other) (sym name) d)) (λ d. (c.computes.ensures (c.args.index + 1) is d).0 c.if-computes.true)

pub returns-else-computes : goal.returns-else-computes
returns-else-computes c =
    let sig : Signature = c.args.signature.now in
    let o : Operator = c.index-as_slice-index.result in
    let is : IsOperator sig (c.args.index + 1) o = operator_at sig c.as_slice.result.now c.args.index o (c.as_slice.ensures ∙ ap (λ (s : Signature). s.operators) c.signature.view_is) c.requires.there c.index-as_slice-index.is in
    let name : c.as_slice-2.result.now ≡ o.spelling = c.as_slice-2.ensures ∙ ap (λ (p : Operator). p.spelling) c.operator.view_is in
    no_schema sig (c.args.index + 1) o is c.spelled-schema.result (subst (λ x. (c.spelled-schema.result ≡ Nothing) ⊎ IsSpelled c.spelled-schema.result x) name c.spelled-schema.ensures.is)
    (λ other d. c.spelled-schema.ensures.only other (subst (IsSpelled other) (sym name) d)) (λ d k. both_ways _ c.if-computes.false ((c.computes.ensures (c.args.index + 1) is d).1 k))
