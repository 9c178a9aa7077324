use Rattle.mw_verdict.proofs.Free.{free_answered}
use Rattle.mw_verdict.proofs.free_are_answered.Goals as goal

pub returns : goal.returns
returns c = free_answered
