use Rattle.std.proofs.Common.{◌≡◌, ◌∙◌, ◌+◌, [], ◌∷◌, arith, ap, sym, subst, slice_index_or}
use Rattle.std.specs.Prelude.{codes, Some, not}
use Rattle.std.proofs.lemmas.Bool.{both_ways, not-false}
use Rattle.std.proofs.lemmas.Slice.Eq.{bytes_eq-Decides}
use Rattle.mw_logic.specs.Signature.{Signature, Operator, IsOperator}
use Rattle.mw_logic.specs.Preregular.{IsSortOf}
use Rattle.mw_poset.specs.SortOrder.{SortOrder}
use Rattle.mw_poset.specs.Order.{IsKindOf}
use Rattle.mw_canon.specs.Axioms.{IsKindOfNumbers}
use Rattle.mw_canon.proofs.Reading.{operator_at, sort_there, first_there, is_one, not_one, no_numbers, other_name, other_arguments, by_result, by_argument}
use Rattle.mw_canon.proofs.rows.is_successor.Goals as goal

pub returns-in_default : goal.returns-in_default
returns-in_default c = sym (no_numbers c.args.signature.now (c.args.index + 1) (subst (IsKindOfNumbers c.args.signature.now) c.in_default.is c.requires.numbers))

pub returns-then-ne : goal.returns-then-ne
returns-then-ne c =
    let sig : Signature = c.args.signature.now in
    let o : Operator = c.index-as_slice-index.result in
    let is : IsOperator sig (c.args.index + 1) o = operator_at sig c.as_slice.result.now c.args.index o (c.as_slice.ensures ∙ ap (λ (s : Signature). s.operators) c.signature.view_is) c.requires.there c.index-as_slice-index.is in
    let name : o.spelling ≡ c.as_slice-2.result.now = ap (λ (p : Operator). p.spelling) (sym c.operator.view_is) ∙ sym c.as_slice-2.ensures in
    sym (other_name sig (c.args.index + 1) o is (λ e. both_ways _ (c.ne.ensures ∙ ap not ((bytes_eq-Decides _ _).1 (sym name ∙ e ∙ sym c.as_slice-3.ensures))) c.if-ne.true))

pub kind_of-requires : goal.kind_of-requires
kind_of-requires c =
    let sig : Signature = c.args.signature.now in
    let o : Operator = c.index-as_slice-index.result in
    let is : IsOperator sig (c.args.index + 1) o = operator_at sig c.as_slice.result.now c.args.index o (c.as_slice.ensures ∙ ap (λ (s : Signature). s.operators) c.signature.view_is) c.requires.there c.index-as_slice-index.is in
    sort_there sig c.args.order.now c.operator.inside.result c.requires.order (subst (IsSortOf sig) (ap (λ (p : Operator). p.result) (sym c.operator.view_is)) (c.requires.sorts.results (c.args.index + 1) o is))

pub kind_of-requires-then-kind_of-kind : goal.kind_of-requires-then-kind_of-kind
kind_of-requires-then-kind_of-kind c =
    let sig : Signature = c.args.signature.now in
    let o : Operator = c.index-as_slice-index.result in
    let is : IsOperator sig (c.args.index + 1) o = operator_at sig c.as_slice.result.now c.args.index o (c.as_slice.ensures ∙ ap (λ (s : Signature). s.operators) c.signature.view_is) c.requires.there c.index-as_slice-index.is in
    let args : o.args ≡ c.as_slice-4.result.now = ap (λ (p : Operator). p.args) (sym c.operator.view_is) ∙ sym c.as_slice-4.ensures in
    sort_there sig c.args.order.now _ c.requires.order (c.requires.sorts.args (c.args.index + 1) o is _ (first_there o.args c.as_slice-4.result.now args c.in-len1.len_at_least))

pub returns-then-kind_of-kind : goal.returns-then-kind_of-kind
returns-then-kind_of-kind c =
    let sig : Signature = c.args.signature.now in
    let o : Operator = c.index-as_slice-index.result in
    let is : IsOperator sig (c.args.index + 1) o = operator_at sig c.as_slice.result.now c.args.index o (c.as_slice.ensures ∙ ap (λ (s : Signature). s.operators) c.signature.view_is) c.requires.there c.index-as_slice-index.is in
    let args : o.args ≡ c.as_slice-4.result.now = ap (λ (p : Operator). p.args) (sym c.operator.view_is) ∙ sym c.as_slice-4.ensures in
    let of_result : IsKindOf c.args.order.now.pairs o.result c.kind_of.result = subst (λ S. IsKindOf c.args.order.now.pairs S c.kind_of.result) (ap (λ (p : Operator). p.result) c.operator.view_is) c.kind_of.ensures in
    let numbers : IsKindOfNumbers sig (Some c.in-Some.kind) = subst (IsKindOfNumbers sig) c.in-Some.is c.requires.numbers in
    let pairs : sig.pairs ≡ c.args.order.now.pairs = ap (λ (p : SortOrder). p.pairs) (sym c.requires.order) in
    let one : o.args ≡ slice_index_or c.as_slice-4.result.now 0 0 ∷ [] = is_one o.args c.as_slice-4.result.now args c.in-len1.len_at_least c.in-len1.len_below in
    let name : o.spelling ≡ codes "s_" = ap (λ (p : Operator). p.spelling) (sym c.operator.view_is) ∙ sym c.as_slice-2.ensures ∙ (bytes_eq-Decides _ _).0 (not-false _ (sym c.ne.ensures ∙ c.if-ne.false)) ∙ c.as_slice-3.ensures in
    by_argument sig (c.args.index + 1) o is c.requires.accepted c.in-Some.kind numbers c.args.order.now.pairs pairs _ c.kind_of.result c.kind_of-then-kind_of-kind.result one of_result name c.kind_of-then-kind_of-kind.ensures c.if-kind_of-kind.true

pub returns-else-kind_of-kind : goal.returns-else-kind_of-kind
returns-else-kind_of-kind c =
    let sig : Signature = c.args.signature.now in
    let o : Operator = c.index-as_slice-index.result in
    let is : IsOperator sig (c.args.index + 1) o = operator_at sig c.as_slice.result.now c.args.index o (c.as_slice.ensures ∙ ap (λ (s : Signature). s.operators) c.signature.view_is) c.requires.there c.index-as_slice-index.is in
    let args : o.args ≡ c.as_slice-4.result.now = ap (λ (p : Operator). p.args) (sym c.operator.view_is) ∙ sym c.as_slice-4.ensures in
    let of_result : IsKindOf c.args.order.now.pairs o.result c.kind_of.result = subst (λ S. IsKindOf c.args.order.now.pairs S c.kind_of.result) (ap (λ (p : Operator). p.result) c.operator.view_is) c.kind_of.ensures in
    let numbers : IsKindOfNumbers sig (Some c.in-Some.kind) = subst (IsKindOfNumbers sig) c.in-Some.is c.requires.numbers in
    let pairs : sig.pairs ≡ c.args.order.now.pairs = ap (λ (p : SortOrder). p.pairs) (sym c.requires.order) in
    let one : o.args ≡ slice_index_or c.as_slice-4.result.now 0 0 ∷ [] = is_one o.args c.as_slice-4.result.now args c.in-len1.len_at_least c.in-len1.len_below in
    by_result sig (c.args.index + 1) o is c.requires.accepted c.in-Some.kind numbers c.args.order.now.pairs pairs _ c.kind_of.result 0 one of_result c.if-kind_of-kind.false

pub returns-in_default-as_slice : goal.returns-in_default-as_slice
returns-in_default-as_slice c =
    let sig : Signature = c.args.signature.now in
    let o : Operator = c.index-as_slice-index.result in
    let is : IsOperator sig (c.args.index + 1) o = operator_at sig c.as_slice.result.now c.args.index o (c.as_slice.ensures ∙ ap (λ (s : Signature). s.operators) c.signature.view_is) c.requires.there c.index-as_slice-index.is in
    let args : o.args ≡ c.as_slice-4.result.now = ap (λ (p : Operator). p.args) (sym c.operator.view_is) ∙ sym c.as_slice-4.ensures in
    sym (other_arguments sig (c.args.index + 1) o is (not_one o.args c.as_slice-4.result.now args (λ e. let l = c.in_default-as_slice.len_below in omega (arith, l, e))))

pub returns-in_default-as_slice-2 : goal.returns-in_default-as_slice-2
returns-in_default-as_slice-2 c =
    let sig : Signature = c.args.signature.now in
    let o : Operator = c.index-as_slice-index.result in
    let is : IsOperator sig (c.args.index + 1) o = operator_at sig c.as_slice.result.now c.args.index o (c.as_slice.ensures ∙ ap (λ (s : Signature). s.operators) c.signature.view_is) c.requires.there c.index-as_slice-index.is in
    let args : o.args ≡ c.as_slice-4.result.now = ap (λ (p : Operator). p.args) (sym c.operator.view_is) ∙ sym c.as_slice-4.ensures in
    sym (other_arguments sig (c.args.index + 1) o is (not_one o.args c.as_slice-4.result.now args (λ e. let l = c.in_default-as_slice.len_at_least in omega (arith, l, e))))
