use Rattle.mw_omod.proofs.Kept.{sides_stay}
use Rattle.mw_omod.proofs.laws.sides_stay.Goals as goal

pub returns : goal.returns
returns c = sides_stay
