use Rattle.mw_build.proofs.Printing.{spellings_are_whole}
use Rattle.mw_build.proofs.laws.spellings_are_whole.Goals as goal

pub returns : goal.returns
returns c = spellings_are_whole
