use Rattle.mw_logic.proofs.EqualTerms.{IsFinal-equal}
use Rattle.mw_logic.proofs.final_is_kept.Goals as goal

pub returns : goal.returns
returns c = λ M t u e h. IsFinal-equal M e h
