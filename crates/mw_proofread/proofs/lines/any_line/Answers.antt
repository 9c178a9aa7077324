use Rattle.mw_proofread.proofs.LineParts.{no_step}
use Rattle.mw_proofread.proofs.lines.any_line.Goals as goal

pub returns-in_default-clause-outside : goal.returns-in_default-clause-outside
returns-in_default-clause-outside c = no_step _ _ c.in_default.ensures
