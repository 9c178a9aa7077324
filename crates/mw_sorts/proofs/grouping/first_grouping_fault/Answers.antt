use Rattle.std.proofs.Common.{◌≡◌, ◌∙◌, ℕ, suc, List, length, ap, sym, subst, arith}
use Rattle.std.specs.Prelude.{IsTrue}
use Rattle.std.proofs.lemmas.Bool.{both_ways}
use Rattle.mw_logic.specs.Signature.{Signature, Operator, IsOperator}
use Rattle.mw_sorts.specs.Groupings.{GroupsAlike, IsFirstGroupingIf}
use Rattle.mw_sorts.proofs.Passes.{operator-read, diagram-there, diagram-read, passed-more, passed-all}
use Rattle.mw_sorts.proofs.grouping.first_grouping_fault.Goals.{then-operator+in_ok-found+in_default, else-operator}
use Rattle.mw_sorts.proofs.grouping.first_grouping_fault.Goals as goal

pub bounds-diagrams-index : goal.bounds-diagrams-index
bounds-diagrams-index c =
    let is = operator-read c.args.signature.now _ c.as_slice-operator-items.result.now c.loop-index.index c.operator-item.result c.as_slice-operator-items.ensures c.signature.view_is c.loop-index-test.true c.operator-item.is in
    diagram-there c.args.signature.now c.args.sorting.now.places c.args.diagrams.now c.loop-index.index c.operator-item.result c.requires.diagrams is

pub first_grouping-requires-clause-operator : goal.first_grouping-requires-clause-operator
first_grouping-requires-clause-operator c =
    let is = operator-read c.args.signature.now _ c.as_slice-operator-items.result.now c.loop-index.index c.operator-item.result c.as_slice-operator-items.ensures c.signature.view_is c.loop-index-test.true c.operator-item.is in
    (suc c.loop-index.index, subst (λ (s : Signature). IsOperator s (suc c.loop-index.index) c.operator-item.result) (sym c.requires.same) is)

pub first_grouping-requires-clause-diagram : goal.first_grouping-requires-clause-diagram
first_grouping-requires-clause-diagram c =
    let is = operator-read c.args.signature.now _ c.as_slice-operator-items.result.now c.loop-index.index c.operator-item.result c.as_slice-operator-items.ensures c.signature.view_is c.loop-index-test.true c.operator-item.is in
    diagram-read c.args.signature.now c.args.sorting.now.signature c.args.sorting.now.places c.args.diagrams.now c.loop-index.index c.operator-item.result c.index-diagrams-index.result c.requires.same c.requires.diagrams is c.index-diagrams-index.is

pub returns-in-Some : goal.returns-in-Some
returns-in-Some c =
    let is = operator-read c.args.signature.now _ c.as_slice-operator-items.result.now c.loop-index.index c.operator-item.result c.as_slice-operator-items.ensures c.signature.view_is c.loop-index-test.true c.operator-item.is in
    let f : c.in_ok-number_at.field-0 ≡ suc c.loop-index.index = let n = c.in_ok-number_at.ensures in omega arith in
    let found = subst (λ (s : Signature). IsFirstGroupingIf s c.operator-item.result c.in_ok-found.found) c.requires.same c.in_ok-found.ensures in
    record {
      operator = c.operator-item.result;
      is_there = subst (λ (g : ℕ). IsOperator c.args.signature.now g c.operator-item.result) (sym f) is;
      assoc = ap (λ (p : Operator). p.assoc) (sym c.operator.view_is) ∙ c.if-operator.true;
      grouping = subst (IsFirstGroupingIf c.args.signature.now c.operator-item.result) c.in-Some.is found;
      before = λ g p there l a. c.loop-index.invariant g p (omega arith) there a;
    }

pub loop-index-preserved : goal.loop-index-preserved
loop-index-preserved c =
    let sig = c.args.signature.now in
    let o = c.operator-item.result in
    let is = operator-read sig _ c.as_slice-operator-items.result.now c.loop-index.index o c.as_slice-operator-items.ensures c.signature.view_is c.loop-index-test.true c.operator-item.is in
    let here : IsTrue o.assoc → GroupsAlike sig o = elim c.if-operator.branch [
      | then-operator+in_ok-found+in_default w ↦ λ a. subst (IsFirstGroupingIf sig o) w.in_default.is (subst (λ (s : Signature). IsFirstGroupingIf s o w.in_ok-found.found) c.requires.same w.in_ok-found.ensures)
      | else-operator w ↦ λ a. absurd (both_ways _ (ap (λ (p : Operator). p.assoc) (sym c.operator.view_is) ∙ w.if-operator.false) a)
    ] in
    λ g p l there a. passed-more sig (λ (x : Operator). IsTrue x.assoc → GroupsAlike sig x) c.loop-index.index o (λ h q m i b. c.loop-index.invariant h q m i b) is here g p l there a

pub returns : goal.returns
returns c = λ f o there a.
    let sig = c.args.signature.now in
    let n = c.loop-index-test.false in
    let e = ap (λ (os : List Operator). length os) c.as_slice-operator-items.ensures in
    let v = ap (λ (s : Signature). length s.operators) c.signature.view_is in
    passed-all sig (λ (x : Operator). IsTrue x.assoc → GroupsAlike sig x) c.loop-index.index (omega arith) (λ h q m i b. c.loop-index.invariant h q m i b) f o there a
