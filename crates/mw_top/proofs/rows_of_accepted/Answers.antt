use Rattle.mw_top.proofs.WrittenAnswered as written
use Rattle.mw_top.proofs.rows_of_accepted.Goals as goal

pub returns : goal.returns
returns c = written.rows_of_accepted
