use Rattle.mw_build.proofs.Printing.{texts_read_back}
use Rattle.mw_build.proofs.laws.texts_read_back.Goals as goal

pub returns : goal.returns
returns c = texts_read_back
