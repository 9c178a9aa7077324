use Rattle.mw_print.proofs.WholeNames.{names_whole}
use Rattle.mw_print.proofs.laws.names_are_whole.Goals as goal

pub returns : goal.returns
returns c = names_whole
