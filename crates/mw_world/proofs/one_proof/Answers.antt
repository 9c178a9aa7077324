use Rattle.mw_world.proofs.Whole.{one_proof}
use Rattle.mw_world.proofs.one_proof.Goals as goal

pub returns : goal.returns
returns c = one_proof
