use Rattle.mw_import.proofs.Flattened.{flattened_within}
use Rattle.mw_import.proofs.laws.flattened_within.Goals as goal

pub returns : goal.returns
returns c = flattened_within
