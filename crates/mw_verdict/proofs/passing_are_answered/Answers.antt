use Rattle.mw_verdict.proofs.Passing.{passing_answered}
use Rattle.mw_verdict.proofs.passing_are_answered.Goals as goal

pub returns : goal.returns
returns c = passing_answered
