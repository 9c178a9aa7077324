use Rattle.mw_logic.proofs.EqualByNormalForm.{equal_by_normal_form}
use Rattle.mw_logic.proofs.equal_by_normal_form.Goals as goal

pub returns : goal.returns
returns c = λ sig ok t u r s. equal_by_normal_form sig ok r s
