use Rattle.mw_verdict.proofs.Laws.{confluent_exclude}
use Rattle.mw_verdict.proofs.causes_exclude_where_confluent.Goals as goal

pub returns : goal.returns
returns c = confluent_exclude
