use Rattle.mw_logic.proofs.CleanForms.{clean_depth}
use Rattle.mw_logic.proofs.one_depth.Goals as goal

pub returns : goal.returns
returns c = λ sig ok t u r f. clean_depth sig ok r f
