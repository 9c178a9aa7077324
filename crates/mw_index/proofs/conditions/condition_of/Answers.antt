use Rattle.std.proofs.Common.{◌≡◌, ◌∙◌, ℕ, List, [], length, map, ap, subst, sym}
use Rattle.std.specs.Prelude.{Option, MatchOption}
use Rattle.mw_logic.specs.Term.{Variable}
use Rattle.mw_logic.specs.Signature.{Signature}
use Rattle.mw_logic.specs.Module.{Statement, Fragment}
use Rattle.mw_position.specs.Variables.{met, place}
use Rattle.mw_term.specs.Statements.{fragment_of}
use Rattle.mw_index.specs.Sections.{AreIn}
use Rattle.mw_index.specs.Conditions.{AreTests, AreReady, IsConditionOf, all_bound}
use Rattle.mw_index.specs.declared.conditions.Test.{Test}
use Rattle.mw_index.proofs.Bound.{first_ready, bound_size, variables_bound}
use Rattle.mw_index.proofs.conditions.condition_of.Goals as goal

-- what the calls gave, said of the statement
module _ (sig : Signature) (e : Statement) (xs : List Variable) (C : List Fragment) (ts : List Test) (x : xs ≡ met [] e.left) where
  said_tests : C ≡ e.fragments → AreTests sig xs C ts → AreTests sig (met [] e.left) e.fragments ts
  said_tests f h = subst (λ C. AreTests sig (met [] e.left) C ts) f (subst (λ xs. AreTests sig xs C ts) x h)

  said_bound : (ys : List Variable) → ys ≡ all_bound xs ts → ys ≡ all_bound (met [] e.left) ts
  said_bound ys b = b ∙ ap (λ xs. all_bound xs ts) x

  said_order : (ys all : List Variable) (o : Option (List ℕ)) → ys ≡ all_bound xs ts → all ≡ e.variables → MatchOption o (ys ≡ all) (λ ns. ns ≡ map (λ x. place x ys) all)
      → MatchOption o (all_bound (met [] e.left) ts ≡ e.variables) (λ ns. ns ≡ map (λ x. place x (all_bound (met [] e.left) ts)) e.variables)
  said_order ys all o b a m =
      subst (λ all. MatchOption o (all_bound (met [] e.left) ts ≡ all) (λ ns. ns ≡ map (λ x. place x (all_bound (met [] e.left) ts)) all)) a
      (subst (λ ys. MatchOption o (ys ≡ all) (λ ns. ns ≡ map (λ x. place x ys) all)) (said_bound ys b) m)

pub tests_of-requires : goal.tests_of-requires
tests_of-requires c =
    let e : Statement = c.args.statement.now in
    let C : map fragment_of c.as_slice.result.now ≡ e.fragments = ap (map fragment_of) c.as_slice.ensures ∙ ap (λ (s : Statement). s.fragments) c.statement.view_is in
    let ready = first_ready c.args.context.now c.shows.ensures c.args.number e c.requires.statement in
    subst (λ all. AreReady c.args.context.now.signature all c.in_ok-bound.bound (map fragment_of c.as_slice.result.now)) (sym c.requires.all)
    (subst (λ xs. AreReady c.args.context.now.signature e.variables xs (map fragment_of c.as_slice.result.now)) (sym c.in_ok-bound.ensures)
    (subst (AreReady c.args.context.now.signature e.variables (met [] e.left)) (sym C) ready))

pub other_order-requires-clause-among : goal.other_order-requires-clause-among
other_order-requires-clause-among c =
    let e : Statement = c.args.statement.now in
    let ts : List Test = c.in_ok-tests.tests.items in
    let C : map fragment_of c.as_slice.result.now ≡ e.fragments = ap (map fragment_of) c.as_slice.ensures ∙ ap (λ (s : Statement). s.fragments) c.statement.view_is in
    let tests = said_tests c.args.context.now.signature e c.in_ok-bound.bound (map fragment_of c.as_slice.result.now) ts c.in_ok-bound.ensures C c.in_ok-tests.ensures.tests in
    let bound = said_bound c.args.context.now.signature e c.in_ok-bound.bound (map fragment_of c.as_slice.result.now) ts c.in_ok-bound.ensures c.tests_of.new.bound c.in_ok-tests.ensures.bound in
    subst (AreIn c.args.all.now) (sym bound)
    (subst (λ all. AreIn all (all_bound (met [] e.left) ts)) (sym c.requires.all) (variables_bound c.args.context.now c.shows.ensures c.args.number e c.requires.statement ts tests))

pub other_order-requires-clause-count : goal.other_order-requires-clause-count
other_order-requires-clause-count c =
    let e : Statement = c.args.statement.now in
    let ts : List Test = c.in_ok-tests.tests.items in
    let C : map fragment_of c.as_slice.result.now ≡ e.fragments = ap (map fragment_of) c.as_slice.ensures ∙ ap (λ (s : Statement). s.fragments) c.statement.view_is in
    let tests = said_tests c.args.context.now.signature e c.in_ok-bound.bound (map fragment_of c.as_slice.result.now) ts c.in_ok-bound.ensures C c.in_ok-tests.ensures.tests in
    let bound = said_bound c.args.context.now.signature e c.in_ok-bound.bound (map fragment_of c.as_slice.result.now) ts c.in_ok-bound.ensures c.tests_of.new.bound c.in_ok-tests.ensures.bound in
    ap (λ (xs : List Variable). length xs) bound ∙ bound_size c.args.context.now c.shows.ensures c.args.number e c.requires.statement ts tests ∙ ap (λ (xs : List Variable). length xs) (sym c.requires.all)

pub returns : goal.returns
returns c =
    let sig : Signature = c.args.context.now.signature in
    let e : Statement = c.args.statement.now in
    let xs : List Variable = c.in_ok-bound.bound in
    let ts : List Test = c.in_ok-tests.tests.items in
    let fs : List Fragment = map fragment_of c.as_slice.result.now in
    let C : fs ≡ e.fragments = ap (map fragment_of) c.as_slice.ensures ∙ ap (λ (s : Statement). s.fragments) c.statement.view_is in
    let condition : IsConditionOf sig e (record { tests = ts; order = c.in_ok-order.order }) = record {
      tests = said_tests sig e xs fs ts c.in_ok-bound.ensures C c.in_ok-tests.ensures.tests;
      order = said_order sig e xs fs ts c.in_ok-bound.ensures c.tests_of.new.bound c.args.all.now c.in_ok-order.order c.in_ok-tests.ensures.bound c.requires.all c.in_ok-order.ensures;
    } in
    subst (λ us. IsConditionOf sig e (record { tests = us; order = c.in_ok-order.order })) (sym c.of.ensures) condition
