use Rattle.mw_frames.proofs.Turning.{last_first}
use Rattle.mw_frames.proofs.looking.is_hidden.Goals as goal

pub returns-in-Some-clause-yes : goal.returns-in-Some-clause-yes
returns-in-Some-clause-yes c = λ h. let (fs, p) = last_first c.args.frames.now c.in-Some.top.now c.in-Some.ensures.value in (c.in-Some.top.now, fs, p, c.hides.ensures.0 h)
