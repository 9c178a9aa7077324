use Rattle.mw_print.proofs.PrefixOpen.{prefix_shallow}
use Rattle.mw_print.proofs.laws.prefix_is_shallow.Goals as goal

pub returns : goal.returns
returns c = prefix_shallow
