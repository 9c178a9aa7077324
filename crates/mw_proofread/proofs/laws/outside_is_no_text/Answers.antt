use Rattle.mw_proofread.proofs.Outside.{outside_no_text}
use Rattle.mw_proofread.proofs.laws.outside_is_no_text.Goals as goal

pub returns : goal.returns
returns c = outside_no_text
