use Rattle.std.proofs.Common.{sym, subst, ◌≡◌, take, reverse}
use Rattle.mw_logic.proofs.Canonical.{Each}
use Rattle.mw_deduction.specs.Replay.{Leaves}
use Rattle.mw_stack.specs.Own.{spread}
use Rattle.mw_trail.specs.Tracks.{moves}
use Rattle.mw_frames.specs.declared.job.Job.TheVariants.{Try}
use Rattle.mw_frames.specs.State.{InHand, IsDone}
use Rattle.mw_frames.proofs.LastArguments.{leaves_last}
use Rattle.mw_frames.proofs.passing.leave_last.Goals as goal

pub returns-clause-means : goal.returns-clause-means
returns-clause-means c = λ K k fs x run w q e h d.
    let m = c.args.machine.now in
    let f = c.args.top in
    let sig = K.over.signature in
    let u = c.in_ok-whole.whole in
    let l : Leaves (moves K.over m.kept) (moves K.over c.leave.new.self) = c.in_ok-leave.ensures.moves K.over in
    let fv : c.leave.new.self.values ≡ m.kept.values = c.in_ok-leave.ensures.values in
    let p : c.close_before.new.done.items ≡ take f.from m.done.items = c.in_ok-whole.ensures.taken h.good.1 in
    let i = leaves_last K run.accepted run.sorted k m.kept.values (moves K.over m.kept) (moves K.over c.leave.new.self) f fs m.done.items m.jobs.items x run.start h l w
    (subst (λ t. Each (IsDone K.over K.rank f.op) (spread sig f.op t)) (sym e) d) c.args.facts.now c.args.term u run.signature e c.in_ok-whole.ensures.is in
    subst (λ vs. InHand K k (record { frames = reverse m.frames.items; done = c.close_before.new.done.items; jobs = m.jobs.items; values = vs; moves = moves K.over c.leave.new.self }) (Try u)) (sym fv)
    (subst (λ gs. InHand K k (record { frames = gs; done = c.close_before.new.done.items; jobs = m.jobs.items; values = m.kept.values; moves = moves K.over c.leave.new.self }) (Try u)) (sym q)
    (subst (λ ds. InHand K k (record { frames = fs; done = ds; jobs = m.jobs.items; values = m.kept.values; moves = moves K.over c.leave.new.self }) (Try u)) (sym p) i))
