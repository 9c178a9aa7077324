use Rattle.mw_omod.proofs.Identifiers.{identifiers_stay}
use Rattle.mw_omod.proofs.laws.identifiers_stay.Goals as goal

pub returns : goal.returns
returns c = identifiers_stay
