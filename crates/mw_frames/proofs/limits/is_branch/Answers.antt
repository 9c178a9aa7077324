use Rattle.mw_frames.proofs.HoleFits.{listed_branch}
use Rattle.std.proofs.Common.{ap, ◌∙◌, not, sym}
use Rattle.mw_frames.proofs.limits.is_branch.Goals as goal

pub returns-in-Op-clause-yes : goal.returns-in-Op-clause-yes
returns-in-Op-clause-yes c = λ h. listed_branch c.in-Op.field-0 c.args.term.now c.in-Op.args.now c.in-Op.ensures (sym (ap not c.is_empty.ensures) ∙ h)
