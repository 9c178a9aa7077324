use Rattle.std.proofs.Common.{rules, ap, ◌∙◌, ◌≡◌, ◌⊎◌, ◌<◌, ◌++◌, ◌∷◌, [], ℕ, List, length, true, reverse, arith}
use Rattle.std.proofs.lemmas.List.{reverse-append}
use Rattle.mw_logic.specs.Term.{RawTerm}
use Rattle.mw_logic.specs.Parts.{is_assoc}
use Rattle.mw_logic.specs.NormalForm.{is_comm}
use Rattle.mw_deduction.specs.Replay.{Move}
use Rattle.mw_stack.specs.Own.{own, IsOrdered}
use Rattle.mw_trail.specs.Tracks.{moves}
use Rattle.mw_frames.specs.Jobs.{term_of}
use Rattle.mw_frames.specs.State.{Run, InHand, IsAtHand}
use Rattle.mw_frames.specs.Machines.{IsCutAt}
use Rattle.mw_frames.specs.declared.job.Job.{Job}
use Rattle.mw_frames.specs.declared.job.Frame.{Frame}
use Rattle.mw_frames.proofs.Turning.{enters_cut, collapses, weights-append, work_is, entering_falls}
use Rattle.mw_frames.proofs.passing.enter.Goals as goal

pub returns-then-not-stands_beside-clause-means : goal.returns-then-not-stands_beside-clause-means
returns-then-not-stands_beside-clause-means c = λ K k run l s.
    let m = c.args.machine.now in
    let z = c.stands_beside.ensures.no (search rules) in
    collapses K run.accepted run.sorted k m.kept.values (moves K.over m.kept) c.args.top (reverse m.frames.items) m.done.items m.jobs.items c.args.job l s (rw run.signature z.0) z.1 z.2

pub returns-then-not-stands_beside-clause-falls : goal.returns-then-not-stands_beside-clause-falls
returns-then-not-stands_beside-clause-falls c = λ M.
    let m = c.args.machine.now in
    let v = weights-append M.signature m.kept.values m.jobs.items c.args.job in
    let a = work_is M.signature m.kept.values (reverse m.frames.items) m.jobs.items in
    let b = work_is M.signature m.kept.values (reverse m.frames.items) (m.jobs.items ++ c.args.job ∷ []) in omega (arith, v, a, b)

pub returns-clause-means : goal.returns-clause-means
returns-clause-means c = λ K k run l s.
    let m = c.args.machine.now in
    let n = c.go_in.new.machine in
    let f : Frame = c.args.top in
    let i = c.before-before.result in
    let fs : List Frame = reverse m.frames.items in
    let p : reverse n.frames.items ≡ f ∷ fs = ap reverse c.in_ok-go_in.ensures.frames ∙ reverse-append m.frames.items (f ∷ []) in
    let v : c.as_slice.result.now ≡ m.done.items = c.as_slice.ensures.value in
    let cut : ((is_comm K.over.signature f.op ≡ true → IsAtHand c.args.job) → IsOrdered K.over.signature f.op (own f.from m.done.items) → IsCutAt K.over.signature f.op (own f.from m.done.items) (term_of K.over.signature m.kept.values c.args.job) i) =
    rw run.signature (rw v at (c.before-before.ensures m.kept.values)) in
    let others : (is_assoc K.over.signature f.op ≡ true → (f.from < length m.done.items) ⊎ (f.waits < length m.jobs.items)) = rw run.signature (c.stands_beside.ensures.yes (search rules)) in
    let e = enters_cut K run.accepted run.sorted k m.kept.values (moves K.over m.kept) f fs m.done.items m.jobs.items c.args.job i l s others cut in
    same p (c.in_ok-go_in.ensures.done) (c.in_ok-go_in.ensures.jobs) (c.in_ok-go_in.ensures.values) (c.in_ok-go_in.ensures.moves K.over) e
  where
    same : {K : Run} {k : ℕ} {fs gs : List Frame} {ds es : List RawTerm} {xs ys : List Job} {vs ws : List RawTerm} {ms ns : List Move} {x : Job} → gs ≡ fs → es ≡ ds → ys ≡ xs → ws ≡ vs → ns ≡ ms
        → InHand K k (record { frames = fs; done = ds; jobs = xs; values = vs; moves = ms }) x → InHand K k (record { frames = gs; done = es; jobs = ys; values = ws; moves = ns }) x
    same a b c d e h = rw (a, b, c, d, e) h

pub returns-clause-falls : goal.returns-clause-falls
returns-clause-falls c = λ M.
    let m = c.args.machine.now in
    let p : reverse c.go_in.new.machine.frames.items ≡ c.args.top ∷ reverse m.frames.items = ap reverse c.in_ok-go_in.ensures.frames ∙ reverse-append m.frames.items (c.args.top ∷ []) in
    entering_falls M.signature m.kept.values c.go_in.new.machine.kept.values (reverse m.frames.items) (reverse c.go_in.new.machine.frames.items) m.jobs.items c.go_in.new.machine.jobs.items c.args.job c.args.top p c.in_ok-go_in.ensures.values c.in_ok-go_in.ensures.jobs
