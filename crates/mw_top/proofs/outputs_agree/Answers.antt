use Rattle.mw_top.proofs.OneOutput.{agree}
use Rattle.mw_top.proofs.outputs_agree.Goals as goal

pub returns : goal.returns
returns c = agree
