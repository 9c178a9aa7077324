use Rattle.mw_chart.proofs.Adding.{adds_put, if_ok_more}
use Rattle.mw_chart.proofs.cell.put_at.Goals as goal

pub returns-clause-ok : goal.returns-clause-ok
returns-clause-ok c = if_ok_more c.put.result _ _ (λ x p. adds_put _ _ _ _ _ _ c.requires c.index_mut.ensures.value p) c.put.ensures
