use Rattle.mw_chart.proofs.Lists.{get_item_of}
use Rattle.mw_chart.proofs.row.strip_of.Goals as goal

pub returns-then-strip-state : goal.returns-then-strip-state
returns-then-strip-state c = (c.strip-item.result, get_item_of _ _ _ _ c.deref-strip-items.ensures.value c.loop-p-test.true c.strip-item.is, c.if-strip-state.true)
