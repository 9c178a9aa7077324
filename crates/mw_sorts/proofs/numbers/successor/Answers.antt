use Rattle.std.proofs.Common.{◌≡◌, ◌∙◌, ℕ, zero, suc, List, length, ap, sym, subst, arith}
use Rattle.std.specs.Prelude.{Some, Option, codes}
use Rattle.std.proofs.lemmas.Bool.{iff_false}
use Rattle.mw_logic.specs.Signature.{Signature, Operator, IsSortNamed, IsSuccessor}
use Rattle.mw_logic.specs.Preregular.{IsSortOf}
use Rattle.mw_sorts.specs.Numbers.{FindsSort, Succeeds}
use Rattle.mw_sorts.specs.States.{IsOperatorOf}
use Rattle.mw_sorts.proofs.Getting.{get-none}
use Rattle.mw_sorts.proofs.Tabling.{operator-of, operator-read}
use Rattle.mw_sorts.proofs.Succeeding.{named-there, is-successor, none-more, none-all}
use Rattle.mw_sorts.proofs.numbers.successor.Goals as goal

found : (sig : Signature) (name : List ℕ) (S : ℕ) (r : Option ℕ) → FindsSort sig name r → r ≡ Some S → name ≡ codes "Nat" → IsSortNamed sig S (codes "Nat")
found sig name S r h e n = subst (IsSortNamed sig S) n (subst (FindsSort sig name) e h)

pub is_successor-requires-clause-operator : goal.is_successor-requires-clause-operator
is_successor-requires-clause-operator c =
    let n = c.loop-index.index in
    let is = operator-read c.args.signature.now c.as_slice-operator-items.result.now n c.operator-item.result (c.as_slice-operator-items.ensures ∙ ap (λ (s : Signature). s.operators) c.signature.view_is) c.loop-index-test.true c.operator-item.is in
    subst (λ (s : Signature). IsOperatorOf s c.operator-item.result) (sym c.requires.same) (operator-of c.args.signature.now (suc n) c.operator-item.result c.requires.sorts c.requires.accepted is)

pub is_successor-requires-clause-nat : goal.is_successor-requires-clause-nat
is_successor-requires-clause-nat c =
    let named = found c.args.signature.now c.as_slice.result.now c.in-Some.nat c.in_ok-nat.field-0 c.in_ok-nat.ensures c.in-Some.is c.as_slice.ensures in
    subst (λ (s : Signature). IsSortOf s c.in-Some.nat) (sym c.requires.same) (named-there c.args.signature.now c.in-Some.nat (codes "Nat") named)

pub loop-index-init : goal.loop-index-init
loop-index-init c zero l s = get-none s.is_there
loop-index-init c (suc f) l s = absurd (omega (arith, l))

pub loop-index-preserved : goal.loop-index-preserved
loop-index-preserved c =
    let sig = c.args.signature.now in
    let n = c.loop-index.index in
    let named = found sig c.as_slice.result.now c.in-Some.nat c.in_ok-nat.field-0 c.in_ok-nat.ensures c.in-Some.is c.as_slice.ensures in
    let is = operator-read sig c.as_slice-operator-items.result.now n c.operator-item.result (c.as_slice-operator-items.ensures ∙ ap (λ (s : Signature). s.operators) c.signature.view_is) c.loop-index-test.true c.operator-item.is in
    let not = iff_false c.is_successor.ensures c.if-is_successor.false in
    none-more sig c.in-Some.nat n c.operator-item.result c.requires.accepted named is (subst (λ (s : Signature). Succeeds s c.in-Some.nat c.operator-item.result → ⊥) c.requires.same not) c.loop-index.invariant

pub returns : goal.returns
returns c =
    let l = c.loop-index-test.false in
    let m = ap (λ (os : List Operator). length os) (c.as_slice-operator-items.ensures ∙ ap (λ (s : Signature). s.operators) c.signature.view_is) in
    none-all c.args.signature.now c.loop-index.index (omega (arith, l, m)) c.loop-index.invariant

pub returns-then-is_successor : goal.returns-then-is_successor
returns-then-is_successor c =
    let sig = c.args.signature.now in
    let n = c.loop-index.index in
    let named = found sig c.as_slice.result.now c.in-Some.nat c.in_ok-nat.field-0 c.in_ok-nat.ensures c.in-Some.is c.as_slice.ensures in
    let is = operator-read sig c.as_slice-operator-items.result.now n c.operator-item.result (c.as_slice-operator-items.ensures ∙ ap (λ (s : Signature). s.operators) c.signature.view_is) c.loop-index-test.true c.operator-item.is in
    let s = c.is_successor.ensures.0 c.if-is_successor.true in
    let one : c.in_ok-number.number ≡ suc n = omega (arith, c.in_ok-number.ensures) in
    subst (IsSuccessor sig) (sym one) (is-successor sig (suc n) c.in-Some.nat c.operator-item.result c.requires.numbers named is (subst (λ (s : Signature). Succeeds s c.in-Some.nat c.operator-item.result) c.requires.same s))
