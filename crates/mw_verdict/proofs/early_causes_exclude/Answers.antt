use Rattle.mw_verdict.proofs.Excluding.{early}
use Rattle.mw_verdict.proofs.early_causes_exclude.Goals as goal

pub returns : goal.returns
returns c = λ M most n i t a b z x y. early M most z x y
