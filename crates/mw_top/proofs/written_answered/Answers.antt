use Rattle.mw_top.proofs.WrittenAnswered as written
use Rattle.mw_top.proofs.written_answered.Goals as goal

pub returns : goal.returns
returns c = written.written_answered
