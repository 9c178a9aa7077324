use Rattle.std.proofs.Common.{ℕ, refl, sym, subst}
use Rattle.mw_least.specs.Workable.{IsWorkable}
use Rattle.mw_frames.specs.Machines.{data_of}
use Rattle.mw_frames.specs.State.{Holds}
use Rattle.mw_frames.specs.declared.job.Job.TheVariants.{Walk}
use Rattle.mw_frames.specs.declared.job.Hand.TheVariants.{One}
use Rattle.mw_reduce.specs.Evaluations.{run_of}
use Rattle.mw_reduce.proofs.Reduced.{is_run, begins_run}
use Rattle.mw_reduce.proofs.judging.is_normal.Goals as goal

pub returns : goal.returns
returns c =
    let M = c.args.context.now in
    let work : IsWorkable M = c.shows.ensures in
    let n : ℕ = c.args.budget.nest in
    let t = c.args.term.now in
    let hand : Holds (run_of M n t) 0 (data_of M c.new-machine.result) (One (Walk c.in_ok-copy.field-0)) =
    subst (λ u. Holds (run_of M n t) 0 (data_of M c.new-machine.result) (One (Walk u))) (sym c.in_ok-copy.ensures) (begins_run M work n t c.requires.admitted c.new-machine.result (λ N. c.new-machine.ensures N)) in
    c.judged.ensures M n c.args.budget.side t (data_of M c.find.new.machine) c.args.index.now c.find.new.choices work c.requires.admitted (c.in_ok-event.ensures.is (run_of M n t) 0 (is_run M work n t c.requires.admitted) refl refl hand)
