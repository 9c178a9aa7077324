use Rattle.mw_verdict.proofs.FirmSides as firm_sides
use Rattle.mw_verdict.proofs.reducible_sides.Goals as goal

pub returns : goal.returns
returns c = firm_sides.reducible_sides
