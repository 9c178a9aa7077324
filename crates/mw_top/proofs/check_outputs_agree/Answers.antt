use Rattle.mw_top.proofs.CheckTells.{checks_tell}
use Rattle.mw_top.proofs.check_outputs_agree.Goals as goal

pub returns : goal.returns
returns c = checks_tell
