use Rattle.mw_print.proofs.CanonicalTold.{canonical_told}
use Rattle.mw_print.proofs.laws.canonical_is_told.Goals as goal

pub returns : goal.returns
returns c = canonical_told
