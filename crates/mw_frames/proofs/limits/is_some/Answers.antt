use Rattle.std.proofs.Common.{ap, ◌∙◌, not, sym}
use Rattle.mw_frames.proofs.HoleFits.{listed_patterns}
use Rattle.mw_frames.proofs.limits.is_some.Goals as goal

pub returns : goal.returns
returns c = λ h. listed_patterns c.slice.result.now c.args.patterns.now c.slice.ensures (sym (ap not c.is_empty.ensures) ∙ h)
