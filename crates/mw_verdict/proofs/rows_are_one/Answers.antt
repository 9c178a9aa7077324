use Rattle.mw_verdict.proofs.OneRow as one_row
use Rattle.mw_verdict.proofs.rows_are_one.Goals as goal

pub returns : goal.returns
returns c = one_row.rows_are_one
