use Rattle.mw_survey.proofs.Claiming.{not_nothing}
use Rattle.mw_survey.proofs.laws.not_nothing.Goals as goal

pub returns : goal.returns
returns c = not_nothing
