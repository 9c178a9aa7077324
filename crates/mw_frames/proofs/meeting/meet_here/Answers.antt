use Rattle.std.proofs.Common.{◌∙◌, ap, ◌++◌, ◌∷◌, [], refl}
use Rattle.mw_deduction.specs.Replay.{meets}
use Rattle.mw_trail.specs.Tracks.{moves}
use Rattle.mw_frames.specs.Machines.{data_of}
use Rattle.mw_frames.proofs.RowsMet.{meets_so}
use Rattle.mw_frames.proofs.meeting.meet_here.Goals as goal

pub returns-clause-means : goal.returns-clause-means
returns-clause-means c = λ K k sig w run h.
    let m = c.args.machine.now in
    let t = c.args.to.now in
    let e = c.in_ok-copy.ensures in
    meets_so K sig run k (data_of K.over m) (data_of K.over (record { frames = m.frames; done = m.done; jobs = m.jobs; kept = c.row.new.self; near = m.near })) w t h refl refl refl
    (c.in_ok-row.ensures.values ∙ ap (λ u. m.kept.values ++ u ∷ []) e) (c.in_ok-row.ensures.moves K.over ∙ ap (λ u. moves K.over m.kept ++ meets u ∷ []) e)
