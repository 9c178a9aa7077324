use Rattle.std.proofs.Common.{◌∙◌}
use Rattle.mw_chart.specs.Chart.{ScansLeaf}
use Rattle.mw_chart.proofs.Lists.{get_at}
use Rattle.mw_chart.proofs.Started.{stands_put}
use Rattle.mw_chart.proofs.Adding.{among_more, among_all}
use Rattle.mw_chart.proofs.scanning.scan_leaves.Goals as goal

pub loop-leaf-preserved : goal.loop-leaf-preserved
loop-leaf-preserved c = record {
  len = c.in_ok-put_at.ensures.len ∙ c.loop-leaf.invariant.len;
  adds = among_more _ _ _ _ _ _ (λ l. ScansLeaf c.args.text.now c.args.i l) (get_at _ _ c.loop-leaf.leaf-index (record { state = 0; value = 0 }) c.deref-leaf-items.ensures.value c.loop-leaf-test.true) c.loop-leaf.invariant.adds
      (stands_put _ _ c.args.text.now c.args.i _ _ c.requires.below c.in_ok-leaf.ensures c.in_ok-put_at.ensures.ok);
}

pub returns-clause-ok : goal.returns-clause-ok
returns-clause-ok c = among_all _ _ _ c.loop-leaf.leaf-index (λ l. ScansLeaf c.args.text.now c.args.i l) (let p = c.deref-leaf-items.ensures.value in let q = c.loop-leaf-test.false in rw p at q) c.loop-leaf.invariant.adds
