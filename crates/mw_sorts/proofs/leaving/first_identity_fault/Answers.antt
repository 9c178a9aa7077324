use Rattle.std.proofs.Common.{◌≡◌, ◌∙◌, ℕ, suc, List, length, ap, sym, subst, arith}
use Rattle.std.specs.Prelude.{Some, None, option_map}
use Rattle.mw_logic.specs.Signature.{Signature, Operator, IsOperator, identity_term}
use Rattle.mw_sorting.specs.ComputedSorts.{ComputedSort}
use Rattle.mw_term.specs.Signatures.{sorted_of, identity_of}
use Rattle.mw_sorts.specs.Diagrams.{HaveDiagrams}
use Rattle.mw_sorts.specs.Leaving.{KeepsAllLow, IsFirstLeftIf}
use Rattle.mw_sorts.proofs.Getting.{get-none}
use Rattle.mw_sorts.proofs.Passes.{operator-read, diagram-there, diagram-read, passed-more, passed-all}
use Rattle.mw_sorts.proofs.leaving.first_identity_fault.Goals.{in-Some+in_ok-found+in_default-found, in_default}
use Rattle.mw_sorts.proofs.leaving.first_identity_fault.Goals as goal

pub bounds-diagrams-index : goal.bounds-diagrams-index
bounds-diagrams-index c =
    let is = operator-read c.args.signature.now _ c.as_slice-operator-items.result.now c.loop-index.index c.operator-item.result c.as_slice-operator-items.ensures c.signature.view_is c.loop-index-test.true c.operator-item.is in
    diagram-there c.args.signature.now c.args.sorting.now.places c.args.diagrams.now c.loop-index.index c.operator-item.result c.requires.diagrams is

pub first_left-requires-clause-operator : goal.first_left-requires-clause-operator
first_left-requires-clause-operator c =
    let is = operator-read c.args.signature.now _ c.as_slice-operator-items.result.now c.loop-index.index c.operator-item.result c.as_slice-operator-items.ensures c.signature.view_is c.loop-index-test.true c.operator-item.is in
    (suc c.loop-index.index, subst (λ (s : Signature). IsOperator s (suc c.loop-index.index) c.operator-item.result) (sym c.requires.same) is)

pub first_left-requires-clause-diagram : goal.first_left-requires-clause-diagram
first_left-requires-clause-diagram c =
    let is = operator-read c.args.signature.now _ c.as_slice-operator-items.result.now c.loop-index.index c.operator-item.result c.as_slice-operator-items.ensures c.signature.view_is c.loop-index-test.true c.operator-item.is in
    diagram-read c.args.signature.now c.args.sorting.now.signature c.args.sorting.now.places c.args.diagrams.now c.loop-index.index c.operator-item.result c.index-diagrams-index.result c.requires.same c.requires.diagrams is c.index-diagrams-index.is

pub first_left-requires-clause-identity : goal.first_left-requires-clause-identity
first_left-requires-clause-identity c =
    let is = operator-read c.args.signature.now _ c.as_slice-operator-items.result.now c.loop-index.index c.operator-item.result c.as_slice-operator-items.ensures c.signature.view_is c.loop-index-test.true c.operator-item.is in
    let named : c.operator-item.result.identity ≡ Some (identity_of c.in-Some.identity) = ap (λ (p : Operator). p.identity) (sym c.operator.view_is) ∙ ap (option_map identity_of) c.in-Some.is in
    let diagrams = subst (λ (ps : List ℕ). HaveDiagrams c.args.signature.now ps c.args.diagrams.now) (sym c.places.ensures) c.requires.diagrams in (
      identity_of c.in-Some.identity,
      named,
      subst (λ (s : Signature). ComputedSort s (identity_term (identity_of c.in-Some.identity)) (sorted_of c.identity_sort-identity.result)) (sym c.requires.same) (
          c.identity_sort-identity.ensures c.args.signature.now (suc c.loop-index.index) c.operator-item.result c.requires.order_sorted.accepted diagrams c.requires.numbers is named
          ),
    )

pub returns-in-Some-found : goal.returns-in-Some-found
returns-in-Some-found c =
    let is = operator-read c.args.signature.now _ c.as_slice-operator-items.result.now c.loop-index.index c.operator-item.result c.as_slice-operator-items.ensures c.signature.view_is c.loop-index-test.true c.operator-item.is in
    let f : c.in_ok-number_at.field-0 ≡ suc c.loop-index.index = let n = c.in_ok-number_at.ensures in omega arith in
    let found = subst (λ (s : Signature). IsFirstLeftIf s c.operator-item.result c.in_ok-found.found) c.requires.same c.in_ok-found.ensures in
    record {
      operator = c.operator-item.result;
      is_there = subst (λ (g : ℕ). IsOperator c.args.signature.now g c.operator-item.result) (sym f) is;
      left = subst (IsFirstLeftIf c.args.signature.now c.operator-item.result) c.in-Some-found.is found;
      before = λ g p there l. c.loop-index.invariant g p (omega arith) there;
    }

pub loop-index-preserved : goal.loop-index-preserved
loop-index-preserved c =
    let sig = c.args.signature.now in
    let o = c.operator-item.result in
    let is = operator-read sig _ c.as_slice-operator-items.result.now c.loop-index.index o c.as_slice-operator-items.ensures c.signature.view_is c.loop-index-test.true c.operator-item.is in
    let here : KeepsAllLow sig o = elim c.match-operator.branch [
      | in-Some+in_ok-found+in_default-found w ↦ subst (IsFirstLeftIf sig o) w.in_default-found.is (subst (λ (s : Signature). IsFirstLeftIf s o w.in_ok-found.found) c.requires.same w.in_ok-found.ensures)
      | in_default w ↦ λ S s E (i, named, computed).
          let none : o.identity ≡ None = ap (λ (p : Operator). p.identity) (sym c.operator.view_is) ∙ ap (option_map identity_of) w.in_default.is in
          absurd (get-none (sym none ∙ named))
    ] in
    passed-more sig (KeepsAllLow sig) c.loop-index.index o c.loop-index.invariant is here

pub returns : goal.returns
returns c =
    let sig = c.args.signature.now in
    let n = c.loop-index-test.false in
    let e = ap (λ (os : List Operator). length os) c.as_slice-operator-items.ensures in
    let v = ap (λ (s : Signature). length s.operators) c.signature.view_is in
    passed-all sig (KeepsAllLow sig) c.loop-index.index (omega arith) c.loop-index.invariant
