use Rattle.std.proofs.Common.{refl, ap, ◌∙◌, ◌∷◌, [], ◌++◌}
use Rattle.mw_trail.specs.Tracks.{moves}
use Rattle.mw_deduction.specs.Replay.{among, meets}
use Rattle.mw_frames.specs.Machines.{data_of}
use Rattle.mw_frames.proofs.Pairs.{pair_met}
use Rattle.mw_frames.proofs.pairing.meet_pair.Goals as goal

pub returns : goal.returns
returns c = λ K k sig f x y z zs run asked met.
    let M = K.over in
    let m = c.args.machine.now in
    let to = c.args.to.now in
    let same = c.in_ok-copy.ensures in
    pair_met K sig run k (data_of M m) f x y z zs met.joins asked to met
    (data_of M (record { frames = m.frames; done = m.done; jobs = m.jobs; kept = c.leave.new.self; near = m.near })) (moves M c.row.new.self) refl refl refl
    (c.in_ok-leave.ensures.values ∙ c.in_ok-row.ensures.values ∙ ap (λ vs. vs ++ c.in_ok-copy.field-0 ∷ []) c.in_ok-among.ensures.values ∙ ap (λ t. m.kept.values ++ t ∷ []) same)
    (c.in_ok-row.ensures.moves M ∙ ap (λ ms. ms ++ meets c.in_ok-copy.field-0 ∷ []) (c.in_ok-among.ensures.moves M) ∙ ap (λ t. (moves M m.kept ++ among (1 ∷ 2 ∷ []) ∷ []) ++ meets t ∷ []) same) (c.in_ok-leave.ensures.moves M)
