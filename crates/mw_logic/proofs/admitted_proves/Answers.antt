use Rattle.mw_logic.proofs.Ranks.{Proves-admitted}
use Rattle.mw_logic.proofs.admitted_proves.Goals as goal

pub returns : goal.returns
returns c = Proves-admitted
