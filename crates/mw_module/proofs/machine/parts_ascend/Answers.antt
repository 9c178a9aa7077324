use Rattle.std.proofs.Common.{IfOk, subst}
use Rattle.mw_module.specs.Parts.{AreParts}
use Rattle.mw_module.proofs.Parts.{parts_read}
use Rattle.mw_module.proofs.machine.parts_ascend.Goals as goal

pub returns : goal.returns
returns c place role want ts parts read = subst (λ r. IfOk r (AreParts ts want)) read (parts_read place role want ts)
