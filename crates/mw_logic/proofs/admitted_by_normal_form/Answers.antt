use Rattle.mw_logic.proofs.Admitted.{admitted-iff}
use Rattle.mw_logic.proofs.admitted_by_normal_form.Goals as goal

pub returns : goal.returns
returns c = λ sig ok t r. admitted-iff sig ok r
