use Rattle.std.proofs.Common.{◌≡◌, ◌∙◌, sym}
use Rattle.mw_term.specs.Raws.{raw_term}
use Rattle.mw_canon.specs.declared.CanonError.TheVariants.{Deep, Nat, Memory}
use Rattle.mw_proof.proofs.Written.{written_raw}
use Rattle.mw_check.proofs.PlacingInstances.{instance_admitted, instance_not_admitted}
use Rattle.mw_check.proofs.replacing.admitted_instance.Goals as goal

pub instance-requires-clause-raw : goal.instance-requires-clause-raw
instance-requires-clause-raw c =
    let p = c.shows.ensures.signature in
    written_raw c.args.context.now.signature p.accepted p.well_sorted c.args.values.now c.requires.substitution (raw_term c.args.side.now) c.requires.side c.facts.result.now c.facts.ensures

pub returns-in-Ok : goal.returns-in-Ok
returns-in-Ok c =
    let p = c.shows.ensures.signature in
    let e = c.in-Ok.ensures in
    instance_admitted c.args.context.now.signature p.accepted p.well_sorted c.args.values.now c.requires.substitution (raw_term c.args.side.now) c.requires.side c.facts.result.now c.facts.ensures
    c.requires.bound c.in-Ok.term e.canonical e.not_deep e.not_large

pub returns-in-Err-Deep : goal.returns-in-Err-Deep
returns-in-Err-Deep c =
    let p = c.shows.ensures.signature in
    instance_not_admitted c.args.context.now.signature p.accepted p.well_sorted c.args.values.now c.requires.substitution (raw_term c.args.side.now) c.requires.side c.facts.result.now c.facts.ensures
    c.in-Err-Deep.field-0 (λ e. let k : Deep ≡ Memory = sym c.in-Err-Deep.field-0-is ∙ e in cc) c.in-Err-Deep.ensures.cause

pub returns-in-Err-Nat : goal.returns-in-Err-Nat
returns-in-Err-Nat c =
    let p = c.shows.ensures.signature in
    instance_not_admitted c.args.context.now.signature p.accepted p.well_sorted c.args.values.now c.requires.substitution (raw_term c.args.side.now) c.requires.side c.facts.result.now c.facts.ensures
    c.in-Err-Nat.field-0 (λ e. let k : Nat ≡ Memory = sym c.in-Err-Nat.field-0-is ∙ e in cc) c.in-Err-Nat.ensures.cause
