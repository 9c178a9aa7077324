use Rattle.std.proofs.Common.{◌-◌, List, length, map, take, drop, subst, sym, arith}
use Rattle.mw_logic.specs.Term.{Variable}
use Rattle.mw_logic.specs.Signature.{Signature}
use Rattle.mw_logic.specs.Module.{Fragment}
use Rattle.mw_term.specs.Statements.{fragment_of}
use Rattle.mw_index.specs.Conditions.{bound_by}
use Rattle.mw_index.proofs.Turns.{IsTurn, first_turn, last_tests, last_bound, turn_sides, turn_among, turn_distinct, turn_front, next_turn, no_turn}
use Rattle.mw_index.proofs.conditions.tests_of.Goals as goal

pub loop-rest-init : goal.loop-rest-init
loop-rest-init c = subst (IsTurn c.args.context.now.signature c.args.all.now c.args.bound.now (map fragment_of c.args.fragments.now) (map fragment_of c.args.fragments.now) c.args.bound.now) (sym c.new-tests.ensures.items)
    (first_turn c.args.context.now.signature c.args.all.now c.args.bound.now (map fragment_of c.args.fragments.now) c.requires)

pub test_of-requires-clause-distinct : goal.test_of-requires-clause-distinct
test_of-requires-clause-distinct c = c.loop-rest.invariant.ready.distinct

pub test_of-requires-clause-sides : goal.test_of-requires-clause-sides
test_of-requires-clause-sides c = turn_sides c.args.context.now.signature c.args.all.now c.args.bound.now (map fragment_of c.args.fragments.now) c.shows.ensures.signature.accepted c.loop-rest.rest.now c.fragment-item.result
    c.in-len1-up.len_at_least c.fragment-item.is c.loop-rest.bound c.loop-rest.tests.items c.loop-rest.invariant

pub bind-requires-clause-among : goal.bind-requires-clause-among
bind-requires-clause-among c = turn_among c.args.context.now.signature c.args.all.now c.args.bound.now (map fragment_of c.args.fragments.now) c.shows.ensures.signature.accepted c.loop-rest.rest.now c.fragment-item.result
    c.in-len1-up.len_at_least c.fragment-item.is c.loop-rest.bound c.loop-rest.tests.items c.loop-rest.invariant c.in_ok-test.test c.in_ok-test.ensures

pub bind-requires-clause-distinct : goal.bind-requires-clause-distinct
bind-requires-clause-distinct c = turn_distinct c.args.context.now.signature c.args.all.now c.args.bound.now (map fragment_of c.args.fragments.now) c.shows.ensures.signature.accepted c.loop-rest.rest.now c.fragment-item.result
    c.in-len1-up.len_at_least c.fragment-item.is c.loop-rest.bound c.loop-rest.tests.items c.loop-rest.invariant c.in_ok-test.test c.in_ok-test.ensures

pub bind-requires-clause-front : goal.bind-requires-clause-front
bind-requires-clause-front c = turn_front c.args.context.now.signature c.args.all.now c.args.bound.now (map fragment_of c.args.fragments.now) c.shows.ensures.signature.accepted c.loop-rest.rest.now c.fragment-item.result
    c.in-len1-up.len_at_least c.fragment-item.is c.loop-rest.bound c.loop-rest.tests.items c.loop-rest.invariant c.in_ok-test.test c.in_ok-test.ensures

pub loop-rest-preserved : goal.loop-rest-preserved
loop-rest-preserved c =
    let sig : Signature = c.args.context.now.signature in
    let xs : List Variable = c.args.bound.now in
    let whole : List Fragment = map fragment_of c.args.fragments.now in
    let left : List Fragment = map fragment_of (take (length c.loop-rest.rest.now - 1) (drop 1 c.loop-rest.rest.now)) in
    let next = next_turn sig c.args.all.now xs whole c.shows.ensures.signature.accepted c.loop-rest.rest.now c.fragment-item.result
    c.in-len1-up.len_at_least c.fragment-item.is c.loop-rest.bound c.loop-rest.tests.items c.loop-rest.invariant c.in_ok-test.test c.in_ok-test.ensures in
    subst (λ ys. IsTurn sig c.args.all.now xs whole left ys c.push.new.self.items) (sym c.in_ok-bind.ensures)
    (subst (IsTurn sig c.args.all.now xs whole left (bound_by c.loop-rest.bound c.in_ok-test.test)) (sym c.in_ok-push.ensures.items) next)

pub returns-clause-tests : goal.returns-clause-tests
returns-clause-tests c =
    last_tests c.args.context.now.signature c.args.all.now c.args.bound.now (map fragment_of c.args.fragments.now) (map fragment_of c.loop-rest.rest.now) c.loop-rest.bound c.loop-rest.tests.items
    (no_turn c.loop-rest.rest.now (let l = c.in_default.len_below in omega (arith, l))) c.loop-rest.invariant

pub returns-clause-bound : goal.returns-clause-bound
returns-clause-bound c = last_bound c.args.context.now.signature c.args.all.now c.args.bound.now (map fragment_of c.args.fragments.now) (map fragment_of c.loop-rest.rest.now) c.loop-rest.bound c.loop-rest.tests.items c.loop-rest.invariant
