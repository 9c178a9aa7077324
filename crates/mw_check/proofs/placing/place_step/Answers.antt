use Rattle.std.proofs.Common.{◌∙◌, ap}
use Rattle.std.proofs.lemmas.Bool.{both_ways}
use Rattle.mw_logic.specs.Module.{Statement}
use Rattle.mw_prooftext.specs.Grounds.{spot_of}
use Rattle.mw_check.proofs.PlacingNamed.{each_once, are_admitted, are_bound, are_sorted, no_part, next_is}
use Rattle.mw_check.proofs.placing.place_step.Goals as goal

pub are_sorted-requires-clause-distinct : goal.are_sorted-requires-clause-distinct
are_sorted-requires-clause-distinct c =
    each_once c.args.context.now c.shows.ensures c.args.step.now.statement c.args.statement.now c.requires.statement c.args.step.now.values c.requires.values
    c.as_slice-variables.result.now (c.as_slice-variables.ensures ∙ ap (λ (e : Statement). e.variables) c.statement.view_is) c.as_slice-values.result.now c.as_slice-values.ensures c.if-values-variables.false

pub replaces-requires-clause-sides : goal.replaces-requires-clause-sides
replaces-requires-clause-sides c =
    c.shows.ensures.sides c.args.step.now.statement c.args.statement.now c.requires.statement.is_there

pub replaces-requires-clause-substitution : goal.replaces-requires-clause-substitution
replaces-requires-clause-substitution c =
    are_sorted c.args.context.now c.shows.ensures c.args.step.now.statement c.args.statement.now c.requires.statement c.args.step.now.values c.requires.values
    c.as_slice-variables.result.now (c.as_slice-variables.ensures ∙ ap (λ (e : Statement). e.variables) c.statement.view_is) c.as_slice-values.result.now c.as_slice-values.ensures c.if-values-variables.false c.in_ok-values.values c.in_ok-values.ensures (c.in_ok-are_sorted.ensures.0 c.if-not-branch.false)

pub replaces-requires-clause-bound : goal.replaces-requires-clause-bound
replaces-requires-clause-bound c =
    are_bound c.args.context.now c.shows.ensures c.args.step.now.statement c.args.statement.now c.requires.statement c.args.step.now.values c.requires.values
    c.as_slice-variables.result.now (c.as_slice-variables.ensures ∙ ap (λ (e : Statement). e.variables) c.statement.view_is) c.as_slice-values.result.now c.as_slice-values.ensures c.if-values-variables.false c.in_ok-values.values c.in_ok-values.ensures

pub replaces-requires-clause-values : goal.replaces-requires-clause-values
replaces-requires-clause-values c =
    are_admitted c.args.context.now c.shows.ensures c.args.step.now.statement c.args.statement.now c.requires.statement c.args.step.now.values c.requires.values
    c.as_slice-variables.result.now (c.as_slice-variables.ensures ∙ ap (λ (e : Statement). e.variables) c.statement.view_is) c.as_slice-values.result.now c.as_slice-values.ensures c.if-values-variables.false c.in_ok-values.values c.in_ok-values.ensures

pub next_term-requires-clause-sides : goal.next_term-requires-clause-sides
next_term-requires-clause-sides c =
    c.shows.ensures.sides c.args.step.now.statement c.args.statement.now c.requires.statement.is_there

pub next_term-requires-clause-substitution : goal.next_term-requires-clause-substitution
next_term-requires-clause-substitution c =
    are_sorted c.args.context.now c.shows.ensures c.args.step.now.statement c.args.statement.now c.requires.statement c.args.step.now.values c.requires.values
    c.as_slice-variables.result.now (c.as_slice-variables.ensures ∙ ap (λ (e : Statement). e.variables) c.statement.view_is) c.as_slice-values.result.now c.as_slice-values.ensures c.if-values-variables.false c.in_ok-values.values c.in_ok-values.ensures (c.in_ok-are_sorted.ensures.0 c.if-not-branch.false)

pub next_term-requires-clause-bound : goal.next_term-requires-clause-bound
next_term-requires-clause-bound c =
    are_bound c.args.context.now c.shows.ensures c.args.step.now.statement c.args.statement.now c.requires.statement c.args.step.now.values c.requires.values
    c.as_slice-variables.result.now (c.as_slice-variables.ensures ∙ ap (λ (e : Statement). e.variables) c.statement.view_is) c.as_slice-values.result.now c.as_slice-values.ensures c.if-values-variables.false c.in_ok-values.values c.in_ok-values.ensures

pub next_term-requires-clause-values : goal.next_term-requires-clause-values
next_term-requires-clause-values c =
    are_admitted c.args.context.now c.shows.ensures c.args.step.now.statement c.args.statement.now c.requires.statement c.args.step.now.values c.requires.values
    c.as_slice-variables.result.now (c.as_slice-variables.ensures ∙ ap (λ (e : Statement). e.variables) c.statement.view_is) c.as_slice-values.result.now c.as_slice-values.ensures c.if-values-variables.false c.in_ok-values.values c.in_ok-values.ensures

pub returns-then-not-branch-2 : goal.returns-then-not-branch-2
returns-then-not-branch-2 c =
    no_part c.args.context.now c.shows.ensures c.args.step.now.statement c.args.statement.now c.requires.statement c.args.step.now.values c.requires.values
    c.as_slice-variables.result.now (c.as_slice-variables.ensures ∙ ap (λ (e : Statement). e.variables) c.statement.view_is) c.as_slice-values.result.now c.as_slice-values.ensures c.if-values-variables.false c.in_ok-values.values c.in_ok-values.ensures (c.in_ok-are_sorted.ensures.0 c.if-not-branch.false)
    (spot_of c.args.step.now.place) c.args.term.now (λ h. both_ways _ c.if-not-branch-2.true (c.in_ok-replaces.ensures.1 h))

pub returns : goal.returns
returns c =
    next_is c.args.context.now c.shows.ensures c.args.step.now.statement c.args.statement.now c.requires.statement c.args.step.now.values c.requires.values
    c.as_slice-variables.result.now (c.as_slice-variables.ensures ∙ ap (λ (e : Statement). e.variables) c.statement.view_is) c.as_slice-values.result.now c.as_slice-values.ensures c.if-values-variables.false c.in_ok-values.values c.in_ok-values.ensures (c.in_ok-are_sorted.ensures.0 c.if-not-branch.false)
    (spot_of c.args.step.now.place) c.args.term.now (c.in_ok-replaces.ensures.0 c.if-not-branch-2.false) c.in_ok-next.next c.in_ok-next.ensures
