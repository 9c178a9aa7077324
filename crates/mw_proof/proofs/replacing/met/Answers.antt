use Rattle.std.proofs.Common.{◌∙◌, ◌++◌, [], ◌∷◌, ap}
use Rattle.mw_deduction.specs.Replay.{meets}
use Rattle.mw_proof.proofs.Once.{row_kept}
use Rattle.mw_proof.proofs.replacing.met.Goals as goal

pub of-requires : goal.of-requires
of-requires c =
    let M = c.args.context.now in
    (row_kept M c.shows.ensures.signature.accepted c.args.rank c.requires.low c.args.from c.requires.may.begins c.args.to c.requires.may c.row.new.self
    (c.in_ok-row.ensures.moves M ∙ ap (λ ms. ms ++ meets c.in_ok-copy.field-0 ∷ []) (c.new-trail.ensures.moves M) ∙ ap (λ u. meets u ∷ []) c.in_ok-copy.ensures)).0
