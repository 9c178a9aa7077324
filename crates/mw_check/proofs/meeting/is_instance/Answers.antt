use Rattle.mw_term.specs.Raws.{raw_term}
use Rattle.mw_check.proofs.MeetingEnds.{pattern_raw, same_met, deep_missed, large_missed}
use Rattle.mw_check.proofs.meeting.is_instance.Goals as goal

pub instance-requires-clause-raw : goal.instance-requires-clause-raw
instance-requires-clause-raw c =
    pattern_raw c.args.context.now.signature c.shows.ensures.signature.accepted c.args.values.now (raw_term c.args.pattern.now) c.requires.raw c.facts.result.now c.facts.ensures

pub returns-in-Ok : goal.returns-in-Ok
returns-in-Ok c =
    same_met c.args.context.now.signature c.shows.ensures.signature.accepted c.args.values.now (raw_term c.args.pattern.now) c.requires.raw c.facts.result.now c.facts.ensures c.args.term.now c.requires.term
    c.in-Ok.built c.same.result c.in-Ok.ensures.canonical c.same.ensures

pub returns-in-Err-Deep : goal.returns-in-Err-Deep
returns-in-Err-Deep c =
    deep_missed c.args.context.now.signature c.shows.ensures.signature.accepted c.args.values.now (raw_term c.args.pattern.now) c.requires.raw c.facts.result.now c.facts.ensures c.args.term.now c.requires.term
    c.in-Err-Deep.field-0 c.in-Err-Deep.field-0-is c.in-Err-Deep.ensures.cause

pub returns-in-Err-Nat : goal.returns-in-Err-Nat
returns-in-Err-Nat c =
    large_missed c.args.context.now.signature c.shows.ensures.signature.accepted c.args.values.now (raw_term c.args.pattern.now) c.requires.raw c.facts.result.now c.facts.ensures c.args.term.now c.requires.term
    c.in-Err-Nat.field-0 c.in-Err-Nat.field-0-is c.in-Err-Nat.ensures.cause
