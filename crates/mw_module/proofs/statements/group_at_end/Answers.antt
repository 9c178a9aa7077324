use Rattle.mw_module.proofs.Slices.{group_read}
use Rattle.mw_module.proofs.statements.group_at_end.Goals as goal

pub returns : goal.returns
returns c = group_read _ _ _ c.tokens_from-group.ensures.seen
