use Rattle.mw_survey.proofs.Claiming.{is_claim}
use Rattle.mw_survey.proofs.laws.is_claim.Goals as goal

pub returns : goal.returns
returns c = is_claim
