use Rattle.mw_verdict.proofs.Proving.{checked}
use Rattle.mw_verdict.proofs.checked_proves.Goals as goal

pub returns : goal.returns
returns c = checked
