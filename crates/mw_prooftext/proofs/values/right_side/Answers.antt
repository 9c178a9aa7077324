use Rattle.std.proofs.Common.{◌∙◌, ap}
use Rattle.std.specs.List.{zip}
use Rattle.mw_logic.specs.Module.{Statement}
use Rattle.mw_term.specs.Raws.{raw_term}
use Rattle.mw_prooftext.proofs.RightSides.{right_values, right_raw, right_is, right_not_deep, right_not_large}
use Rattle.mw_prooftext.proofs.values.right_side.Goals as goal

pub instance-requires-clause-values : goal.instance-requires-clause-values
instance-requires-clause-values c =
    let e = c.args.statement.now in
    let vs = c.args.values.now in
    let s = c.in_ok-substitution.ensures ∙ ap (λ xs. zip xs vs) (c.as_slice.ensures ∙ ap (λ (d : Statement). d.variables) c.statement.view_is) in
    right_values c.args.context.now c.shows.ensures e vs c.requires c.in_ok-substitution.substitution s (raw_term c.statement.inside.right) (ap (λ (d : Statement). d.right) c.statement.view_is) c.facts.result.now c.facts.ensures

pub instance-requires-clause-raw : goal.instance-requires-clause-raw
instance-requires-clause-raw c =
    let e = c.args.statement.now in
    let vs = c.args.values.now in
    let s = c.in_ok-substitution.ensures ∙ ap (λ xs. zip xs vs) (c.as_slice.ensures ∙ ap (λ (d : Statement). d.variables) c.statement.view_is) in
    right_raw c.args.context.now c.shows.ensures e vs c.requires c.in_ok-substitution.substitution s (raw_term c.statement.inside.right) (ap (λ (d : Statement). d.right) c.statement.view_is) c.facts.result.now c.facts.ensures

pub returns-in-Ok : goal.returns-in-Ok
returns-in-Ok c =
    let e = c.args.statement.now in
    let vs = c.args.values.now in
    let s = c.in_ok-substitution.ensures ∙ ap (λ xs. zip xs vs) (c.as_slice.ensures ∙ ap (λ (d : Statement). d.variables) c.statement.view_is) in
    c.in-Ok.ensures.canonical
    ∙ right_is c.args.context.now c.shows.ensures e vs c.requires c.in_ok-substitution.substitution s (raw_term c.statement.inside.right) (ap (λ (d : Statement). d.right) c.statement.view_is) c.facts.result.now c.facts.ensures

pub unreachable-requires : goal.unreachable-requires
unreachable-requires c =
    let e = c.args.statement.now in
    let vs = c.args.values.now in
    let s = c.in_ok-substitution.ensures ∙ ap (λ xs. zip xs vs) (c.as_slice.ensures ∙ ap (λ (d : Statement). d.variables) c.statement.view_is) in
    right_not_deep c.args.context.now c.shows.ensures e vs c.requires c.in_ok-substitution.substitution s (raw_term c.statement.inside.right) (ap (λ (d : Statement). d.right) c.statement.view_is) c.facts.result.now c.facts.ensures
    c.in-Err-Deep.field-0 c.in-Err-Deep.field-0-is c.in-Err-Deep.ensures.cause

pub unreachable-requires-in-Err-Nat : goal.unreachable-requires-in-Err-Nat
unreachable-requires-in-Err-Nat c =
    let e = c.args.statement.now in
    let vs = c.args.values.now in
    let s = c.in_ok-substitution.ensures ∙ ap (λ xs. zip xs vs) (c.as_slice.ensures ∙ ap (λ (d : Statement). d.variables) c.statement.view_is) in
    right_not_large c.args.context.now c.shows.ensures e vs c.requires c.in_ok-substitution.substitution s (raw_term c.statement.inside.right) (ap (λ (d : Statement). d.right) c.statement.view_is) c.facts.result.now c.facts.ensures
    c.in-Err-Nat.field-0 c.in-Err-Nat.field-0-is c.in-Err-Nat.ensures.cause
