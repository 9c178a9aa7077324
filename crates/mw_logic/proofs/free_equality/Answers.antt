use Rattle.mw_logic.proofs.FreeSignature.{free_equal}
use Rattle.mw_logic.proofs.free_equality.Goals as goal

pub returns : goal.returns
returns c = λ sig free t u e. free_equal sig free e
