use Rattle.std.proofs.Common.{rules, ap, subst, ◌∙◌, ◌≡◌, ◌∷◌, [], reverse, refl}
use Rattle.std.proofs.lemmas.List.{reverse-append}
use Rattle.mw_trail.specs.Tracks.{moves}
use Rattle.mw_deduction.specs.Replay.{Leaves}
use Rattle.mw_frames.specs.Machines.{data_of}
use Rattle.mw_frames.proofs.TakingPart.{goes_out_so, closed_whole}
use Rattle.mw_frames.proofs.whole.whole.Goals as goal

pub loop-frame-preserved : goal.loop-frame-preserved
loop-frame-preserved c = λ K k run h.
    let old = c.loop-frame.machine in
    let new = c.put_together.new.machine in
    let top = c.in-Some.frame in
    let (i, same) = c.loop-frame.invariant K k run h in
    let (j, more) = goes_out_so K c.args.facts.now run k (data_of K.over old) (data_of K.over (record { frames = new.frames; done = new.done; jobs = new.jobs; kept = c.leave.new.self; near = new.near })) top (reverse c.pop.new.self.items) c.loop-frame.term c.in_ok-term.term
    i (ap reverse c.in-Some.ensures.items ∙ reverse-append c.pop.new.self.items (top ∷ []))
    (ap reverse c.in_ok-term.ensures.frames) c.in_ok-term.ensures.done c.in_ok-term.ensures.jobs
    (c.in_ok-leave.ensures.values ∙ ap (λ t. t.values) c.in_ok-term.ensures.kept)
    (subst (λ t. Leaves (moves K.over t) (moves K.over c.leave.new.self)) c.in_ok-term.ensures.kept (c.in_ok-leave.ensures.moves K.over))
    c.in_ok-term.ensures.term in
    (j, more ∙ same)

pub loop-frame-init : goal.loop-frame-init
loop-frame-init c = λ K k run h. (h, refl)

pub returns : goal.returns
returns c = λ K k run h.
    let m = c.loop-frame.machine in
    let (i, same) = c.loop-frame.invariant K k run h in
    let none : m.frames.items ≡ [] = search rules in
    let (w, e) = closed_whole K c.args.facts.now run k (data_of K.over m) c.loop-frame.term _ i (ap reverse none) same in
    (record { stand = w.stand; leads = w.leads; closed = w.closed; hand = w.hand }, e)
