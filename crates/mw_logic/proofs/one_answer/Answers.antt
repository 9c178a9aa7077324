use Rattle.mw_logic.proofs.Clash.{one_answer}
use Rattle.mw_logic.proofs.one_answer.Goals as goal

pub returns : goal.returns
returns c = one_answer
