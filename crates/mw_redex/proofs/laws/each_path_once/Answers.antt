use Rattle.mw_redex.proofs.Levels.{each_path}
use Rattle.mw_redex.proofs.laws.each_path_once.Goals as goal

pub returns : goal.returns
returns c = each_path
