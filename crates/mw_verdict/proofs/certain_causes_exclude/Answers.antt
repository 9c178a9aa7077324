use Rattle.mw_verdict.proofs.Laws.{certain_exclude}
use Rattle.mw_verdict.proofs.certain_causes_exclude.Goals as goal

pub returns : goal.returns
returns c = certain_exclude
