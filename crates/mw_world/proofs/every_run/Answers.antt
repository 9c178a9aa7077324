use Rattle.mw_world.proofs.Keeping.{every_run}
use Rattle.mw_world.proofs.every_run.Goals as goal

pub returns : goal.returns
returns c = every_run
