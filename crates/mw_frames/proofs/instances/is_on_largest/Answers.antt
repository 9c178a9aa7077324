use Rattle.mw_logic.specs.Kinds.{is_successor}
use Rattle.mw_logic.specs.NormalForm.{is_comm}
use Rattle.std.proofs.Common.{length}
use Rattle.mw_frames.proofs.HoleFits.{not_alone, one_missing}
use Rattle.mw_frames.proofs.instances.is_on_largest.Goals as goal

pub returns-else-args-eq1 : goal.returns-else-args-eq1
returns-else-args-eq1 c =
    one_missing (length c.args.args.now) (is_successor c.args.facts.now c.args.operator) _ c.if-args-eq1.false (not_alone (is_comm c.args.facts.now c.args.operator) c.args.args.now c.if-args-eq1.false)
