use Rattle.mw_redex.proofs.Levels.{paths_lengthening}
use Rattle.mw_redex.proofs.laws.paths_lengthen.Goals as goal

pub returns : goal.returns
returns c = paths_lengthening
