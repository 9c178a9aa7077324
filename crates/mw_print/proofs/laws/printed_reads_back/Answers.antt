use Rattle.mw_print.proofs.ReadBack.{printed_reads_back}
use Rattle.mw_print.proofs.laws.printed_reads_back.Goals as goal

pub returns : goal.returns
returns c = printed_reads_back
