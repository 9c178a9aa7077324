use Rattle.std.proofs.Common.{◌∙◌, ◌++◌, ◌∷◌, [], ap, subst}
use Rattle.mw_deduction.specs.Replay.{Leaves}
use Rattle.mw_trail.specs.Tracks.{moves}
use Rattle.mw_proof.specs.Ways.{way}
use Rattle.mw_gather.proofs.gathering.beside_rest.Goals as goal

pub returns-clause-beside : goal.returns-clause-beside
returns-clause-beside c = λ f M.
    subst (λ ms. Leaves (ms ++ moves M c.args.inner) (moves M c.in_ok-trail.trail))
    (c.in_ok-go_in.ensures M ∙ ap (λ ms. ms ++ way c.as_slice.result.now ∷ []) (c.new-trail.ensures.moves M) ∙ ap (λ ns. way ns ∷ []) c.as_slice.ensures.value) (c.in_ok-trail.ensures M)
