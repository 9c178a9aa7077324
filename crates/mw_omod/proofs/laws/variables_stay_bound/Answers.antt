use Rattle.mw_omod.proofs.Kept.{variables_stay_bound}
use Rattle.mw_omod.proofs.laws.variables_stay_bound.Goals as goal

pub returns : goal.returns
returns c = variables_stay_bound
