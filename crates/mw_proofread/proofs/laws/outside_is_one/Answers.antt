use Rattle.mw_proofread.proofs.Outside.{outside_one}
use Rattle.mw_proofread.proofs.laws.outside_is_one.Goals as goal

pub returns : goal.returns
returns c = outside_one
