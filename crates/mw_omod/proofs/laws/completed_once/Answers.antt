use Rattle.mw_omod.proofs.Once.{completed_once}
use Rattle.mw_omod.proofs.laws.completed_once.Goals as goal

pub returns : goal.returns
returns c = completed_once
