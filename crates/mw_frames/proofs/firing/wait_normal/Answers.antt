use Rattle.mw_frames.proofs.LeftOver.{waits_next}
use Rattle.mw_frames.proofs.firing.wait_normal.Goals as goal

pub loop-term-preserved : goal.loop-term-preserved
loop-term-preserved c =
    waits_next c.loop-term.jobs.items c.push.new.self.items _ c.loop-term.terms.items c.pop.new.self.items c.in-Some.term c.in-Some.ensures.items c.in_ok-push.ensures.items c.loop-term.invariant
