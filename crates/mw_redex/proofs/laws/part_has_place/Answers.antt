use Rattle.mw_redex.proofs.Standing.{part_somewhere}
use Rattle.mw_redex.proofs.laws.part_has_place.Goals as goal

pub returns : goal.returns
returns c = part_somewhere
