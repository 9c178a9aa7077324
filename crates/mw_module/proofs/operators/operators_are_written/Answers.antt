use Rattle.mw_module.proofs.Written as law
use Rattle.mw_module.proofs.operators.operators_are_written.Goals as goal

pub returns : goal.returns
returns c = law.operators_are_written
