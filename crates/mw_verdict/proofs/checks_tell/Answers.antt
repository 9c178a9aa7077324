use Rattle.mw_verdict.proofs.Telling.{tells}
use Rattle.mw_verdict.proofs.checks_tell.Goals as goal

pub returns : goal.returns
returns c = λ M n items t u r k ds h. tells M h
