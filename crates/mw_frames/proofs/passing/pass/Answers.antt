use Rattle.std.proofs.Common.{◌≡◌, ◌≤◌, ◌<◌, ◌∙◌, ◌++◌, ◌∷◌, [], List, suc, length, take, reverse, refl, ap, subst, arith, length-append, append-nil}
use Rattle.mw_logic.specs.Term.{join}
use Rattle.mw_logic.specs.Signature.{Signature}
use Rattle.mw_logic.specs.NormalForm.{is_comm, arranged}
use Rattle.mw_stack.specs.Own.{own, spread}
use Rattle.mw_trail.specs.Tracks.{Track, moves}
use Rattle.mw_frames.specs.declared.job.Job.{Job}
use Rattle.mw_frames.specs.declared.job.Job.TheVariants.{Normal}
use Rattle.mw_frames.specs.Jobs.{weights, work}
use Rattle.mw_frames.specs.State.{Settled, work_of}
use Rattle.mw_frames.specs.Machines.{data_of}
use Rattle.mw_frames.proofs.Turning.{settles, normal_waits, weights-append, work_is}
use Rattle.mw_frames.proofs.passing.pass.Goals as goal

-- one job fewer waits
fewer : (xs ys : List Job) (x : Job) → xs ≡ ys ++ x ∷ [] → length xs ≡ suc (length ys)
fewer xs ys x e = let a = length-append ys (x ∷ []) in let b = ap length e in omega (arith, a, b)

pub loop-job-preserved : goal.loop-job-preserved
loop-job-preserved c =
    let m = c.loop-job.machine in
    let f = c.args.top in
    let t = c.in-Normal.term in
    let ys = c.pop_behind.new.jobs.items in
    let e : m.jobs.items ≡ ys ++ Normal t ∷ [] = c.in-Some.ensures.items ∙ ap (λ x. ys ++ x ∷ []) c.in-Normal.is in
    let some = c.in-Some.ensures.some refl in
    let one = fewer m.jobs.items ys (Normal t) e in
    let l : f.waits ≤ length ys = omega (arith, some, one) in
    record {
      means = λ K k run s0.
          let s = subst (λ js. Settled K k (record { frames = reverse m.frames.items; done = m.done.items; jobs = js; values = m.kept.values; moves = moves K.over m.kept }) f) e (c.loop-job.invariant.means K k run s0) in
          let o = normal_waits K run.accepted run.sorted k m.kept.values (moves K.over m.kept) f (reverse m.frames.items) m.done.items ys t l s in
          let p : take f.from c.put.new.done.items ≡ take f.from m.done.items = c.in_ok-put-in-Normal.ensures.below o.0 in
          let r : own f.from c.put.new.done.items ≡ arranged (is_comm K.over.signature f.op) (join (own f.from m.done.items) (spread K.over.signature f.op t)) =
          rw run.signature (c.in_ok-put-in-Normal.ensures.own o.0 (rw⁻¹ run.signature o.1) (rw⁻¹ run.signature o.2)) in
          settles K run.accepted run.sorted k m.kept.values (moves K.over m.kept) f (reverse m.frames.items) m.done.items c.put.new.done.items ys t l s p r;
      frames = c.loop-job.invariant.frames;
      kept = c.loop-job.invariant.kept;
      light = λ sig vs.
          let a = c.loop-job.invariant.light sig vs in
          let b = ap (weights sig vs) e in let w = weights-append sig vs ys (Normal t) in omega (arith, a, b, w);
    }

pub returns-in_default-job : goal.returns-in_default-job
returns-in_default-job c =
    let m = c.loop-job.machine in
    let f = c.args.top in
    let x : Job = c.in-Some.job in
    let ys = c.pop_behind.new.jobs.items in
    let e : m.jobs.items ≡ ys ++ x ∷ [] = c.in-Some.ensures.items in
    let some = c.in-Some.ensures.some refl in
    let one = fewer m.jobs.items ys x e in
    let l : f.waits ≤ length ys = omega (arith, some, one) in
    record {
      means = λ K k run s0. c.in_ok-hand-in_default-job.ensures.means K k run l
          (subst (λ js. Settled K k (record { frames = reverse m.frames.items; done = m.done.items; jobs = js; values = m.kept.values; moves = moves K.over m.kept }) f) e (c.loop-job.invariant.means K k run s0));
      falls = λ M.
          let sig : Signature = M.signature in
          let vs = c.args.machine.now.kept.values in
          let fs = reverse m.frames.items in
          let g : work_of sig (data_of M c.enter.new.machine) c.in_ok-hand-in_default-job.hand < suc (work sig m.kept.values (f ∷ fs) (ys ++ x ∷ [])) = c.in_ok-hand-in_default-job.ensures.falls M in
          let h = subst (λ (k : Track). work_of sig (data_of M c.enter.new.machine) c.in_ok-hand-in_default-job.hand < suc (work sig k.values (f ∷ fs) (ys ++ x ∷ []))) c.loop-job.invariant.kept g in
          let a = work_is sig vs fs (ys ++ x ∷ []) in
          let b = work_is sig vs (reverse c.args.machine.now.frames.items) c.args.machine.now.jobs.items in
          let q : length fs ≡ length (reverse c.args.machine.now.frames.items) = ap (λ xs. length (reverse xs)) c.loop-job.invariant.frames in
          let i = c.loop-job.invariant.light sig vs in
          let j = ap (weights sig vs) e in
          omega (arith, h, a, b, q, i, j);
    }

pub returns-clause-falls : goal.returns-clause-falls
returns-clause-falls c = λ M.
    let m = c.loop-job.machine in
    let sig : Signature = M.signature in
    let vs = c.args.machine.now.kept.values in
    let fs = reverse m.frames.items in
    let ys = c.pop_behind.new.jobs.items in
    let e : m.jobs.items ≡ ys = c.in_default.ensures.items ∙ append-nil ys in
    let a = work_is sig vs fs ys in
    let b = work_is sig vs (reverse c.args.machine.now.frames.items) c.args.machine.now.jobs.items in
    let q : length fs ≡ length (reverse c.args.machine.now.frames.items) = ap (λ xs. length (reverse xs)) c.loop-job.invariant.frames in
    let i = c.loop-job.invariant.light sig vs in
    let j = ap (weights sig vs) e in
    let k = ap (λ (t : Track). work sig t.values (c.args.top ∷ fs) ys) c.loop-job.invariant.kept in
    omega (arith, a, b, q, i, j, k)
