use Rattle.mw_redex.proofs.Standing.{place_in_term}
use Rattle.mw_redex.proofs.laws.place_replaces.Goals as goal

pub returns : goal.returns
returns c = place_in_term
