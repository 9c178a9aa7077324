use Rattle.std.proofs.Common.{◌∙◌, ap}
use Rattle.mw_proof.specs.Deductions.{Deduction}
use Rattle.mw_proof.proofs.UnderKept.{idle_built, lifted_built}
use Rattle.mw_proof.proofs.lifting.under.Goals as goal

pub of-requires : goal.of-requires
of-requires c =
    let M = c.args.context.now in
    (idle_built M c.requires.well c.args.operator c.args.before.items c.args.after.items c.args.inner c.requires.module c.shows.ensures c.requires.clear c.requires.begins c.requires.liftable
    c.as_slice.result.now c.as_slice-2.result.now c.as_slice.ensures.value c.as_slice-2.ensures.value c.in_ok-from.field-0.from c.in_ok-from.field-0.to c.in_ok-from.ensures.from c.in_ok-from.ensures.to
    c.rank-rank.result c.rank-rank.ensures c.steps.result c.steps.ensures c.if-steps-eq0.true c.new.result (c.new.ensures.moves M)).0

pub returns-then-steps-eq0-clause-run : goal.returns-then-steps-eq0-clause-run
returns-then-steps-eq0-clause-run c =
    let M = c.args.context.now in
    ap (λ (d : Deduction). d.run) c.of.ensures
    ∙ (idle_built M c.requires.well c.args.operator c.args.before.items c.args.after.items c.args.inner c.requires.module c.shows.ensures c.requires.clear c.requires.begins c.requires.liftable
    c.as_slice.result.now c.as_slice-2.result.now c.as_slice.ensures.value c.as_slice-2.ensures.value c.in_ok-from.field-0.from c.in_ok-from.field-0.to c.in_ok-from.ensures.from c.in_ok-from.ensures.to
    c.rank-rank.result c.rank-rank.ensures c.steps.result c.steps.ensures c.if-steps-eq0.true c.new.result (c.new.ensures.moves M)).1

pub of-requires-2 : goal.of-requires-2
of-requires-2 c =
    let M = c.args.context.now in
    (lifted_built M c.requires.well c.args.operator c.args.before.items c.args.after.items c.args.inner c.requires.module c.shows.ensures c.requires.clear c.requires.begins c.requires.liftable
    c.as_slice.result.now c.as_slice-2.result.now c.as_slice.ensures.value c.as_slice-2.ensures.value c.in_ok-from.field-0.from c.in_ok-from.field-0.to c.in_ok-from.ensures.from c.in_ok-from.ensures.to
    c.rank-rank.result c.rank-rank.ensures c.steps.result c.steps.ensures c.if-steps-eq0.false c.into_trail.result c.in_ok-trail.trail c.in_ok-from.field-0.trail c.into_trail.ensures.kept c.into_trail.ensures.is (c.in_ok-from.ensures.way M) (c.in_ok-trail.ensures M)).0

pub returns-clause-run : goal.returns-clause-run
returns-clause-run c =
    let M = c.args.context.now in
    ap (λ (d : Deduction). d.run) c.of-2.ensures
    ∙ (lifted_built M c.requires.well c.args.operator c.args.before.items c.args.after.items c.args.inner c.requires.module c.shows.ensures c.requires.clear c.requires.begins c.requires.liftable
    c.as_slice.result.now c.as_slice-2.result.now c.as_slice.ensures.value c.as_slice-2.ensures.value c.in_ok-from.field-0.from c.in_ok-from.field-0.to c.in_ok-from.ensures.from c.in_ok-from.ensures.to
    c.rank-rank.result c.rank-rank.ensures c.steps.result c.steps.ensures c.if-steps-eq0.false c.into_trail.result c.in_ok-trail.trail c.in_ok-from.field-0.trail c.into_trail.ensures.kept c.into_trail.ensures.is (c.in_ok-from.ensures.way M) (c.in_ok-trail.ensures M)).1
