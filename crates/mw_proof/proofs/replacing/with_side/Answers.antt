use Rattle.std.proofs.Common.{◌∙◌, ◌++◌, [], ◌∷◌, ap, append_assoc}
use Rattle.mw_deduction.specs.Replay.{begins, ends}
use Rattle.mw_trail.specs.Tracks.{moves}
use Rattle.mw_proof.proofs.replacing.with_side.Goals as goal

pub returns : goal.returns
returns c = λ M.
    let before = moves M c.args.trail in
    let inner = moves M c.into_trail.result in
    let first = begins c.in_ok-copy.field-0 in (
      c.into_trail.result,
      c.into_trail.ensures.kept,
      c.into_trail.ensures.is,
      c.in_ok-end.ensures.moves M ∙ ap (λ ms. ms ++ ends ∷ []) (c.in_ok-trail.ensures.moves M ∙ ap (λ ms. ms ++ inner) (c.in_ok-begin.ensures.moves M) ∙ append_assoc before (first ∷ []) inner)
          ∙ append_assoc before (first ∷ inner) (ends ∷ []) ∙ ap (λ t. before ++ (begins t ∷ inner ++ ends ∷ [])) (c.in_ok-copy.ensures ∙ c.from.ensures),
    )
