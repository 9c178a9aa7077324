use Rattle.mw_logic.proofs.Clash.{normal_stands}
use Rattle.mw_logic.proofs.normal_stands.Goals as goal

pub returns : goal.returns
returns c = normal_stands
