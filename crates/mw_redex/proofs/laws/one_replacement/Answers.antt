use Rattle.mw_redex.proofs.Standing.{one_place}
use Rattle.mw_redex.proofs.laws.one_replacement.Goals as goal

pub returns : goal.returns
returns c = one_place
