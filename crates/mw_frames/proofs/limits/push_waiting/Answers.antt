use Rattle.mw_frames.proofs.HoleFits.{put_one, put_nothing}
use Rattle.mw_frames.proofs.limits.push_waiting.Goals as goal

pub returns-in_ok-push : goal.returns-in_ok-push
returns-in_ok-push c = λ h. put_one c.args.facts.now c.args.values.now c.args.jobs.now c.in-Some.job.now c.args.found.now.items c.push.new.self.items c.in_ok-term.term h c.in-Some.ensures.value c.in_ok-term.ensures c.in_ok-push.ensures.items

pub returns-in_default : goal.returns-in_default
returns-in_default c = λ h. put_nothing c.args.facts.now c.args.values.now c.args.jobs.now c.args.found.now.items c.in_default.ensures.value
