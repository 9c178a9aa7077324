use Rattle.std.proofs.Common.{◌≡◌, ◌≤◌, ◌<◌, ◌∙◌, ◌++◌, ◌∷◌, [], List, suc, length, take, reverse, refl, ap, subst, arith, length-append}
use Rattle.mw_logic.specs.Term.{join}
use Rattle.mw_logic.specs.NormalForm.{is_comm, arranged}
use Rattle.mw_stack.specs.Own.{own, spread}
use Rattle.mw_trail.specs.Tracks.{moves}
use Rattle.mw_frames.specs.declared.job.Job.{Job}
use Rattle.mw_frames.specs.declared.job.Job.TheVariants.{Normal}
use Rattle.mw_frames.specs.Jobs.{weights, work}
use Rattle.mw_frames.specs.State.{Settled, work_of}
use Rattle.mw_frames.specs.Machines.{data_of}
use Rattle.mw_frames.proofs.Turning.{settles, normal_waits, weights-append, work_is}
use Rattle.mw_frames.proofs.passing.pass_one.Goals as goal

fewer : (xs ys : List Job) (x : Job) → xs ≡ ys ++ x ∷ [] → length xs ≡ suc (length ys)
fewer xs ys x e = let a = length-append ys (x ∷ []) in let b = ap length e in omega (arith, a, b)

pub returns-in_ok-put-in-Some-Normal-clause-means : goal.returns-in_ok-put-in-Some-Normal-clause-means
returns-in_ok-put-in-Some-Normal-clause-means c = λ K k run s0.
    let m = c.args.machine.now in
    let f = c.args.top in
    let t = c.in-Some-Normal.term in
    let ys = c.pop_behind.new.jobs.items in
    let e : m.jobs.items ≡ ys ++ Normal t ∷ [] = c.in-Some-Normal.ensures.items ∙ ap (λ x. ys ++ x ∷ []) c.in-Some-Normal.field-0-is in
    let some = c.in-Some-Normal.ensures.some refl in
    let one = fewer m.jobs.items ys (Normal t) e in
    let l : f.waits ≤ length ys = omega (arith, some, one) in
    let s = subst (λ js. Settled K k (record { frames = reverse m.frames.items; done = m.done.items; jobs = js; values = m.kept.values; moves = moves K.over m.kept }) f) e s0 in
    let o = normal_waits K run.accepted run.sorted k m.kept.values (moves K.over m.kept) f (reverse m.frames.items) m.done.items ys t l s in
    let p : take f.from c.put.new.done.items ≡ take f.from m.done.items = c.in_ok-put-in-Some-Normal.ensures.below o.0 in
    let r : own f.from c.put.new.done.items ≡ arranged (is_comm K.over.signature f.op) (join (own f.from m.done.items) (spread K.over.signature f.op t)) =
    rw run.signature (c.in_ok-put-in-Some-Normal.ensures.own o.0 (rw⁻¹ run.signature o.1) (rw⁻¹ run.signature o.2)) in
    settles K run.accepted run.sorted k m.kept.values (moves K.over m.kept) f (reverse m.frames.items) m.done.items c.put.new.done.items ys t l s p r

pub returns-in_ok-put-in-Some-Normal-clause-falls : goal.returns-in_ok-put-in-Some-Normal-clause-falls
returns-in_ok-put-in-Some-Normal-clause-falls c = λ M.
    let m = c.args.machine.now in
    let sig = M.signature in
    let vs = m.kept.values in
    let fs = reverse m.frames.items in
    let ys = c.pop_behind.new.jobs.items in
    let e : m.jobs.items ≡ ys ++ Normal c.in-Some-Normal.term ∷ [] = c.in-Some-Normal.ensures.items ∙ ap (λ x. ys ++ x ∷ []) c.in-Some-Normal.field-0-is in
    let a = work_is sig vs fs m.jobs.items in
    let b = work_is sig vs fs ys in
    let i = ap (weights sig vs) e in
    let w = weights-append sig vs ys (Normal c.in-Some-Normal.term) in
    omega (arith, a, b, i, w)

pub returns-in_ok-hand-in-Some : goal.returns-in_ok-hand-in-Some
returns-in_ok-hand-in-Some c =
    let m = c.args.machine.now in
    let f = c.args.top in
    let x : Job = c.in-Some.job in
    let ys = c.pop_behind.new.jobs.items in
    let e : m.jobs.items ≡ ys ++ x ∷ [] = c.in-Some.ensures.items in
    let some = c.in-Some.ensures.some refl in
    let one = fewer m.jobs.items ys x e in
    let l : f.waits ≤ length ys = omega (arith, some, one) in
    record {
      means = λ K k run s0. c.in_ok-hand-in-Some.ensures.means K k run l
          (subst (λ js. Settled K k (record { frames = reverse m.frames.items; done = m.done.items; jobs = js; values = m.kept.values; moves = moves K.over m.kept }) f) e s0);
      falls = λ M.
          let h : work_of M.signature (data_of M c.enter.new.machine) c.in_ok-hand-in-Some.hand < suc (work M.signature m.kept.values (f ∷ reverse m.frames.items) (ys ++ x ∷ [])) = c.in_ok-hand-in-Some.ensures.falls M in
          subst (λ js. work_of M.signature (data_of M c.enter.new.machine) c.in_ok-hand-in-Some.hand < suc (work M.signature m.kept.values (f ∷ reverse m.frames.items) js)) (Rattle.std.proofs.Common.sym e) h;
    }
