use Rattle.std.proofs.Common.{◌≡◌, ◌∙◌, ◌+◌, ◌≤◌, ℕ, suc, List, length, Some, sym, ap, subst, arith}
use Rattle.std.specs.List.{slice_get}
use Rattle.mw_logic.specs.Signature.{Signature, Operator, IsOperator}
use Rattle.mw_chart.proofs.Lists.{get_item}
use Rattle.mw_grammar.specs.Notations.{IsNotationOf}
use Rattle.mw_grammar.specs.Readable.{kind_in}
use Rattle.mw_grammar.specs.Compiled.{AddsNotations}
use Rattle.mw_grammar.proofs.Writing.{adds_nothing, adds_notations, adds_more, none_early, early_next, early_from, all_early, early_all}
use Rattle.mw_grammar.proofs.notations.add_all.Goals as goal

pub loop-i-init : goal.loop-i-init
loop-i-init c = adds_nothing c.args.making.now c.args.names.now _ (none_early (kind_in c.args.kinds.now) c.args.signature.now)

pub add_operator-requires : goal.add_operator-requires
add_operator-requires c =
    let i = c.loop-i.i in
    let ops = c.as_slice-operator-items.ensures ∙ ap (λ (s : Signature). s.operators) c.signature.view_is in
    c.requires.precedences (suc i) c.operator-item.result
    (ap (λ (os : List Operator). slice_get os i) (sym ops) ∙ get_item c.as_slice-operator-items.result.now i c.operator-item.result c.loop-i-test.true c.operator-item.is)

pub loop-i-preserved : goal.loop-i-preserved
loop-i-preserved c =
    let sig = c.args.signature.now in
    let kind = kind_in c.args.kinds.now in
    let i = c.loop-i.i in
    let ops = c.as_slice-operator-items.ensures ∙ ap (λ (s : Signature). s.operators) c.signature.view_is in
    let got : slice_get sig.operators i ≡ Some c.operator-item.result = ap (λ (os : List Operator). slice_get os i) (sym ops) ∙ get_item c.as_slice-operator-items.result.now i c.operator-item.result c.loop-i-test.true c.operator-item.is in
    let move : suc i ≡ i + 1 = omega arith in
    let is : IsOperator sig (i + 1) c.operator-item.result = subst (λ (f : ℕ). IsOperator sig f c.operator-item.result) move got in
    adds_more _ _ _ _ _ _ _ _ _ (early_next kind sig i c.operator-item.result is) (early_from kind sig i c.operator-item.result is) c.loop-i.invariant
    (subst (λ (n : ℕ). AddsNotations c.loop-i.making c.add_operator.new.making c.loop-i.names c.add_operator.new.names (IsNotationOf kind (n + (i + 1)) (i + 1) c.operator-item.result)) c.requires.sorts c.in_ok-add_operator.ensures)

pub returns : goal.returns
returns c =
    let sig = c.args.signature.now in
    let ops = ap length (c.as_slice-operator-items.ensures ∙ ap (λ (s : Signature). s.operators) c.signature.view_is) in
    let high : length sig.operators ≤ c.loop-i.i = (let h = c.loop-i-test.false in omega (arith, h, ops)) in
    adds_notations _ _ _ _ _ _ (early_all (kind_in c.args.kinds.now) sig c.loop-i.i) (all_early (kind_in c.args.kinds.now) sig c.loop-i.i high) c.loop-i.invariant
