use Rattle.std.proofs.Common.{◌≡◌, ◌++◌, ◌∷◌, ◌∙◌, [], List, sym, ap, append_assoc, reverse}
use Rattle.std.proofs.lemmas.List.{reverse-append}
use Rattle.mw_trail.specs.Tracks.{Track, moves}
use Rattle.mw_frames.specs.Machines.{all_moves}
use Rattle.mw_frames.proofs.firing.show.Goals as goal

pub loop-side-preserved : goal.loop-side-preserved
loop-side-preserved c =
    let k : Track = c.loop-side.kept in
    let t : Track = c.in-Some.side in
    let old : List Track = c.loop-side.sides.items in
    let new : List Track = c.pop.new.self.items in
    let (all, es, kept) = c.loop-side.invariant in
    let last : old ≡ new ++ t ∷ [] = c.in-Some.ensures.items in (
      λ M.
          let q : all_moves M (reverse old) ≡ moves M t ++ all_moves M (reverse new) = ap (λ ts. all_moves M (reverse ts)) last ∙ ap (all_moves M) (reverse-append new (t ∷ [])) in
          let made : moves M c.in_ok-kept.field-0 ≡ moves M k ++ moves M t = c.in_ok-kept.ensures.moves M ∙ ap (λ s. moves M s ++ moves M t) c.replace-before.ensures.value in
          all M ∙ ap (λ ms. moves M k ++ ms) q ∙ sym (append_assoc (moves M k) (moves M t) (all_moves M (reverse new))) ∙ ap (λ ms. ms ++ all_moves M (reverse new)) (sym made),
      es ++ t.values,
      c.in_ok-kept.ensures.values ∙ ap (λ s. s.values ++ t.values) c.replace-before.ensures.value ∙ ap (λ us. us ++ t.values) kept ∙ append_assoc c.args.kept.now.values es t.values,
    )
