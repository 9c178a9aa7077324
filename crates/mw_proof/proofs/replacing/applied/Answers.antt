use Rattle.mw_trail.specs.Tracks.{moves}
use Rattle.mw_proof.proofs.Once.{kept_built, applies_built}
use Rattle.mw_proof.proofs.replacing.applied.Goals as goal

pub of-requires : goal.of-requires
of-requires c =
    let M = c.args.context.now in
    let p = c.shows.ensures in
    let may = c.requires.may in
    let sides = p.sides c.args.number may.statement may.is_there.is_there in
    let there = may.is_there.is_there in
    kept_built M p.signature.accepted p.signature.well_sorted c.args.rank c.requires.low c.args.number c.args.substitution.now c.args.evidence.items may sides.left sides.right
    c.in_ok-from.field-0.from c.in_ok-from.field-0.to c.in_ok-from.field-0.values.items (c.in_ok-from.ensures.from may.statement there) (c.in_ok-from.ensures.to may.statement there) (c.in_ok-from.ensures.values may.statement there)
    (moves M c.in_ok-trail.trail) (c.in_ok-trail.ensures M) c.apply.new.self (c.in_ok-apply.ensures.moves M)

pub returns-clause-applies : goal.returns-clause-applies
returns-clause-applies c =
    let M = c.args.context.now in
    let p = c.shows.ensures in
    let may = c.requires.may in
    let sides = p.sides c.args.number may.statement may.is_there.is_there in
    let there = may.is_there.is_there in
    applies_built M p.signature.accepted p.signature.well_sorted c.args.rank c.requires.low c.args.number c.args.substitution.now c.args.evidence.items may sides.left sides.right
    c.in_ok-from.field-0.from c.in_ok-from.field-0.to c.in_ok-from.field-0.values.items (c.in_ok-from.ensures.from may.statement there) (c.in_ok-from.ensures.to may.statement there) (c.in_ok-from.ensures.values may.statement there)
    (moves M c.in_ok-trail.trail) (c.in_ok-trail.ensures M) c.apply.new.self (c.in_ok-apply.ensures.moves M) c.of.result c.of.ensures
