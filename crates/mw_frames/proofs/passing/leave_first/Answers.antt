use Rattle.std.proofs.Common.{◌≡◌, ◌≤◌, ◌∷◌, ◌++◌, ◌∙◌, [], ap, sym, subst, length, take, drop, reverse, refl, arith, drop_of_length-le, option_to_list, Some, None, Option}
use Rattle.mw_logic.specs.Term.{apply, join}
use Rattle.mw_logic.specs.Terms.{args_of, terms_of}
use Rattle.mw_logic.specs.NormalForm.{is_comm, arranged}
use Rattle.mw_logic.proofs.Canonical.{Each}
use Rattle.mw_deduction.specs.Replay.{Leaves}
use Rattle.mw_stack.specs.Own.{own, spread, IsOrdered}
use Rattle.mw_trail.specs.Tracks.{moves}
use Rattle.mw_frames.specs.declared.job.Job.{Job}
use Rattle.mw_frames.specs.declared.job.Job.TheVariants.{Normal, Try}
use Rattle.mw_frames.specs.Jobs.{term_of, work}
use Rattle.mw_frames.specs.Lists.{IsLongList}
use Rattle.mw_frames.specs.State.{InHand, IsDone}
use Rattle.mw_frames.proofs.FirstArguments.{last_taken, last_waits, leaves_first, lighter}
use Rattle.mw_frames.proofs.Turning.{work_is}
use Rattle.mw_frames.proofs.passing.leave_first.Goals as goal

pub returns-clause-means : goal.returns-clause-means
returns-clause-means c = λ K k fs x run ends l q e h d.
    let m = c.args.machine.now in
    let f = c.args.top in
    let sig = K.over.signature in
    let u = c.in_ok-whole.whole in
    let ys = ends.others in
    let t = ends.last in
    let lv : Leaves (moves K.over m.kept) (moves K.over c.leave.new.self) = c.in_ok-leave.ensures.moves K.over in
    let fv : c.leave.new.self.values ≡ m.kept.values = c.in_ok-leave.ensures.values in
    let taken = last_taken m.jobs.items ys c.pop_behind-last.new.jobs.items t c.pop_behind-last.result f.waits ends.are ends.count c.pop_behind-last.ensures.items c.pop_behind-last.ensures.none in
    let list : IsLongList sig f.op (term_of sig m.kept.values x) = subst (λ S. IsLongList S f.op (term_of sig m.kept.values x)) (sym run.signature) (subst (IsLongList c.args.facts.now f.op) (sym e) l) in
    let done = subst (λ z. Each (IsDone K.over K.rank f.op) (spread sig f.op z)) (sym e) d in
    let h1 = subst (λ js. InHand K k (record { frames = f ∷ fs; done = m.done.items; jobs = js; values = m.kept.values; moves = moves K.over m.kept }) x) ends.are h in
    let w = last_waits K run.accepted run.sorted k m.kept.values (moves K.over m.kept) (moves K.over c.leave.new.self) f fs m.done.items ys t x run.start h1 lv ends.count c.requires.done list done in
    let none : own f.from m.done.items ≡ terms_of [] = ap terms_of (drop_of_length-le m.done.items (omega (arith, c.requires.done))) in
    let within : f.from ≤ length m.done.items = omega (arith, c.requires.done) in
    let ordered : IsOrdered c.args.facts.now f.op (own f.from m.done.items) = rw (none, l.ordered) refl in
    let put : own f.from c.put_normal.new.done.items ≡ arranged (is_comm c.args.facts.now f.op) (join (own f.from m.done.items) (spread c.args.facts.now f.op t)) =
    c.in_ok-put_normal.ensures.own t taken.1 within ordered (subst (λ S. IsOrdered S f.op (spread S f.op t)) run.signature w.2) in
    let last : own f.from c.put_normal.new.done.items ≡ spread sig f.op t =
    put ∙ ap (λ o. arranged o (join (own f.from m.done.items) (spread c.args.facts.now f.op t))) l.ordered ∙ ap (λ us. join us (spread c.args.facts.now f.op t)) none ∙ ap (λ S. spread S f.op t) (sym run.signature) in
    let made : u ≡ apply f.op (join (args_of (term_of sig m.kept.values x)) (spread sig f.op t)) =
    c.in_ok-whole.ensures.is ∙ ap (λ us. apply f.op (join (args_of c.args.first) us)) last ∙ ap (λ z. apply f.op (join (args_of z) (spread sig f.op t))) (sym e) in
    let p : c.apply_after.new.terms.items ≡ take f.from m.done.items = c.in_ok-whole.ensures.taken ∙ c.in_ok-put_normal.ensures.below within in
    let i = leaves_first K run.accepted run.sorted k m.kept.values (moves K.over m.kept) (moves K.over c.leave.new.self) f fs m.done.items ys t x run.start h1 lv ends.count c.requires.done list done u made in
    subst (λ vs. InHand K k (record { frames = reverse m.frames.items; done = c.apply_after.new.terms.items; jobs = c.pop_behind-last.new.jobs.items; values = vs; moves = moves K.over c.leave.new.self }) (Try u)) (sym fv)
    (subst (λ gs. InHand K k (record { frames = gs; done = c.apply_after.new.terms.items; jobs = c.pop_behind-last.new.jobs.items; values = m.kept.values; moves = moves K.over c.leave.new.self }) (Try u)) (sym q)
    (subst (λ ds. InHand K k (record { frames = fs; done = ds; jobs = c.pop_behind-last.new.jobs.items; values = m.kept.values; moves = moves K.over c.leave.new.self }) (Try u)) (sym p)
    (subst (λ js. InHand K k (record { frames = fs; done = take f.from m.done.items; jobs = js; values = m.kept.values; moves = moves K.over c.leave.new.self }) (Try u)) (sym taken.0) i)))

pub returns-clause-falls : goal.returns-clause-falls
returns-clause-falls c = λ M.
    let m = c.args.machine.now in
    let sig = M.signature in
    let vs = m.kept.values in
    let fs = reverse m.frames.items in
    let new = c.pop_behind-last.new.jobs.items in
    let a = work_is sig vs fs new in
    let b = work_is sig vs fs m.jobs.items in
    let l = lighter sig vs m.jobs.items new c.pop_behind-last.result c.pop_behind-last.ensures.items in
    let v = ap (λ ws. work sig ws fs new) c.in_ok-leave.ensures.values in
    omega (arith, a, b, l, v)
