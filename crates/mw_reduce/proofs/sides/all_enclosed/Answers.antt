use Rattle.std.proofs.Common.{◌≡◌, ◌++◌, ◌∷◌, ◌∙◌, [], List, sym, ap, append_assoc, append-nil, reverse}
use Rattle.std.proofs.lemmas.List.{reverse-append}
use Rattle.mw_logic.specs.Module.{Module}
use Rattle.mw_trail.specs.Tracks.{Track, moves}
use Rattle.mw_frames.specs.Machines.{all_moves as trail_moves}
use Rattle.mw_reduce.specs.declared.sides.Reduced.{Reduced}
use Rattle.mw_reduce.specs.Evaluations.{side_moves, all_moves}
use Rattle.mw_reduce.proofs.sides.all_enclosed.Goals as goal

trails_more : (M : Module) (ts : List Track) (k : Track) → trail_moves M (ts ++ k ∷ []) ≡ trail_moves M ts ++ moves M k
trails_more M [] k = append-nil (moves M k)
trails_more M (t ∷ ts) k = ap (λ ms. moves M t ++ ms) (trails_more M ts k) ∙ sym (append_assoc (moves M t) (trail_moves M ts) (moves M k))

pub loop-side-preserved : goal.loop-side-preserved
loop-side-preserved c = λ M.
    let r : Reduced = c.in-Some.side in
    let k : Track = c.in_ok-trail.trail in
    let ts : List Track = c.loop-side.trails.items in
    let new : List Reduced = c.pop.new.self.items in
    let last : c.loop-side.left.items ≡ new ++ r ∷ [] = c.in-Some.ensures.items in
    let order : all_moves M (reverse c.loop-side.left.items) ≡ side_moves M r ++ all_moves M (reverse new) = ap (λ rs. all_moves M (reverse rs)) last ∙ ap (all_moves M) (reverse-append new (r ∷ [])) in
    ap (λ us. trail_moves M us ++ all_moves M (reverse new)) c.in_ok-push.ensures.items
    ∙ ap (λ ms. ms ++ all_moves M (reverse new)) (trails_more M ts k ∙ ap (λ ms. trail_moves M ts ++ ms) (c.in_ok-trail.ensures M))
    ∙ append_assoc (trail_moves M ts) (side_moves M r) (all_moves M (reverse new)) ∙ ap (λ ms. trail_moves M ts ++ ms) (sym order) ∙ c.loop-side.invariant M
