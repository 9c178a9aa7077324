use Rattle.std.proofs.Common.{rules, ◌∙◌, refl}
use Rattle.mw_frames.proofs.LeftOver.{put_next, put_all}
use Rattle.mw_frames.proofs.whole.put_rest.Goals as goal

pub loop-job-preserved : goal.loop-job-preserved
loop-job-preserved c =
    let (t, d) = put_next c.args.facts.now c.args.values.now c.args.waits c.loop-job.jobs.items c.pop_behind.new.jobs.items c.in-Some.job c.loop-job.done.items c.put_job.new.done.items c.args.done.now.items _ (c.in-Some.ensures.some refl) c.in-Some.ensures.items c.in_ok-put_job.ensures c.loop-job.invariant.1 in
    (t ∙ c.loop-job.invariant.0, d)

pub returns-clause-done : goal.returns-clause-done
returns-clause-done c =
    let (ws, d, s) = c.loop-job.invariant.1 in
    (ws, d, put_all c.args.facts.now c.args.values.now c.args.waits c.loop-job.jobs.items _ ws (search rules) s)
