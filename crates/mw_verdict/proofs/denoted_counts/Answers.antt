use Rattle.mw_verdict.proofs.Counted.{denoted_counted}
use Rattle.mw_verdict.proofs.denoted_counts.Goals as goal

pub returns : goal.returns
returns c = denoted_counted
