use Rattle.mw_logic.proofs.Ranks.{Proves-up}
use Rattle.mw_logic.proofs.rank_rises.Goals as goal

pub returns : goal.returns
returns c = Proves-up
