use Rattle.std.proofs.Common.{⊎_elim}
use Rattle.mw_logic.specs.Judgements.{admitted_judgements}
use Rattle.mw_frames.proofs.Normals.{normal_has}
use Rattle.mw_frames.proofs.coming.job_of.Goals as goal

pub returns-else-is_sure-clause-known : goal.returns-else-is_sure-clause-known
returns-else-is_sure-clause-known c = λ M n vs ok sorted k. ⊎_elim (λ h. normal_has M ok sorted (admitted_judgements M n).Fails c.args.value k.canonical h) (λ h. h.0) k.known
