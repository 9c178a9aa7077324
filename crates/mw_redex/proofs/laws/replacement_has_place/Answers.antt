use Rattle.mw_redex.proofs.Standing.{replacement_somewhere}
use Rattle.mw_redex.proofs.laws.replacement_has_place.Goals as goal

pub returns : goal.returns
returns c = replacement_somewhere
