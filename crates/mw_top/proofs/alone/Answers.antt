use Rattle.mw_top.proofs.Doing.{exact}
use Rattle.mw_top.proofs.alone.Goals as goal

pub returns-clause-exact : goal.returns-clause-exact
returns-clause-exact g c = exact _ _ _ _ _ _ _ _ _ c.run.result _ _ (λ e. (c.run.ensures.source_failed e).1) c.run.ensures.sink_failed c.run.ensures
