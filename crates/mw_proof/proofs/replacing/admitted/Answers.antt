use Rattle.std.proofs.Common.{◌∙◌}
use Rattle.mw_term.specs.Raws.{raw_term}
use Rattle.mw_proof.proofs.Written.{written_raw, written_normal, never_deep, never_large}
use Rattle.mw_proof.proofs.replacing.admitted.Goals as goal

pub instance-requires-clause-raw : goal.instance-requires-clause-raw
instance-requires-clause-raw c =
    let p = c.shows.ensures.signature in
    written_raw c.args.context.now.signature p.accepted p.well_sorted c.args.substitution.now c.requires.substitution (raw_term c.args.raw.now) c.requires.raw c.facts.result.now c.facts.ensures

pub unreachable-requires : goal.unreachable-requires
unreachable-requires c =
    let p = c.shows.ensures.signature in
    never_deep c.args.context.now.signature p.accepted p.well_sorted c.args.substitution.now c.requires.substitution (raw_term c.args.raw.now) c.requires.raw c.requires.admitted c.facts.result.now c.facts.ensures
    c.in-Err-Deep.field-0 c.in-Err-Deep.field-0-is c.in-Err-Deep.ensures.cause

pub unreachable-requires-in-Err-Nat : goal.unreachable-requires-in-Err-Nat
unreachable-requires-in-Err-Nat c =
    let p = c.shows.ensures.signature in
    never_large c.args.context.now.signature p.accepted p.well_sorted c.args.substitution.now c.requires.substitution (raw_term c.args.raw.now) c.requires.raw c.requires.admitted c.facts.result.now c.facts.ensures
    c.in-Err-Nat.field-0 c.in-Err-Nat.field-0-is c.in-Err-Nat.ensures.cause

pub returns-in-Ok : goal.returns-in-Ok
returns-in-Ok c =
    let p = c.shows.ensures.signature in
    c.in-Ok.ensures.canonical ∙ written_normal c.args.context.now.signature p.accepted p.well_sorted c.args.substitution.now c.requires.substitution (raw_term c.args.raw.now) c.requires.raw c.facts.result.now c.facts.ensures
