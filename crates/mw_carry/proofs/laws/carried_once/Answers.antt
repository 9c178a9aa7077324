use Rattle.mw_carry.proofs.Once.{carried_one}
use Rattle.mw_carry.proofs.laws.carried_once.Goals as goal

pub returns : goal.returns
returns c = λ sig to t u v ok apart is js. carried_one sig to ok apart is js
