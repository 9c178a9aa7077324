use Rattle.std.proofs.Common.{rules, append_assoc}
use Rattle.mw_gen.proofs.workload.command.Goals as goal

pub returns : goal.returns
returns c = simp append_assoc (search rules)
