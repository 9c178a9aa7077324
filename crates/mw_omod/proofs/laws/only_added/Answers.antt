use Rattle.mw_omod.proofs.Kept.{only_added}
use Rattle.mw_omod.proofs.laws.only_added.Goals as goal

pub returns : goal.returns
returns c = only_added
