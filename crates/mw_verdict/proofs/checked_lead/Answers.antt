use Rattle.mw_verdict.proofs.Leading as leading
use Rattle.mw_verdict.proofs.checked_lead.Goals as goal

pub returns : goal.returns
returns c = leading.checked_lead
