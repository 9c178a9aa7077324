use Rattle.std.proofs.Common.{◌∙◌, suc, reverse, ap, sym, subst}
use Rattle.mw_logic.specs.Term.{RawTerm}
use Rattle.mw_logic.specs.WellFormed.{IsWellFormed}
use Rattle.mw_stack.specs.Own.{spread}
use Rattle.mw_trail.specs.Tracks.{moves}
use Rattle.mw_frames.specs.Machines.{data_of}
use Rattle.mw_frames.specs.State.{HasNormalArguments}
use Rattle.mw_frames.specs.Arrivals.{Comes}
use Rattle.mw_frames.specs.Redex.{HasInHand, IsRowOf}
use Rattle.mw_frames.specs.Taking.{Receives}
use Rattle.mw_frames.proofs.Applications.{several_settled}
use Rattle.mw_frames.proofs.meeting.meet_part.Goals as goal

pub returns : goal.returns
returns c = λ K k w S run part may.
    let met = c.meet_here.new.machine in
    let old = c.leave_hole.new.machine in
    let after = c.wait_met.new.machine in
    let f = c.args.frame in
    let sig = K.over.signature in
    let t : RawTerm = c.args.to in
    let h : HasInHand K (suc k) (data_of K.over met) t = c.in_ok-meet_here.ensures.means K k c.args.facts.now w run may in
    let inner = ap reverse c.in_ok-meet_here.ensures.frames ∙ part.inner in
    let r : Receives K (suc k) (data_of K.over old) f t = c.in_ok-leave_hole.ensures.means K (suc k) c.args.facts.now f part.outer t run inner part.assoc h in
    let comes : Comes sig old.kept.values f (spread sig f.op t) (λ M n. (u : RawTerm) × IsRowOf M n u t × IsWellFormed M × HasNormalArguments M n u) old.done.items after.done.items old.jobs.items after.jobs.items =
    subst (λ s. Comes s old.kept.values f (spread s f.op t) (λ M n. (u : RawTerm) × IsRowOf M n u t × IsWellFormed M × HasNormalArguments M n u) old.done.items after.done.items old.jobs.items after.jobs.items) (sym run.signature)
    (c.in_ok-wait_met.ensures.comes old.kept.values) in
    let z = several_settled K c.args.facts.now run (suc k) old.kept.values (moves K.over old.kept) f (reverse old.frames.items) old.done.items after.done.items old.jobs.items after.jobs.items t _ r
    (w, may.row, run.well, part.asked.holds.job) comes in
    rw (c.in_ok-wait_met.ensures.keeps.frames, c.in_ok-wait_met.ensures.keeps.kept) z
