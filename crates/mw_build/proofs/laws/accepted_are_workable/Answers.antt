use Rattle.mw_build.proofs.Working.{accepted_workable}
use Rattle.mw_build.proofs.laws.accepted_are_workable.Goals as goal

pub returns : goal.returns
returns c = accepted_workable
