use Rattle.mw_chart.proofs.Ends.{bare_push}
use Rattle.mw_chart.proofs.chart.empty_rows.Goals as goal

pub loop-i-preserved : goal.loop-i-preserved
loop-i-preserved c = rw c.in_ok-push.ensures.items (bare_push c.loop-i.i c.loop-i.rows.items _ c.loop-i.invariant c.new.ensures.items)
