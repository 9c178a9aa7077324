use Rattle.std.proofs.Common.{refl, arith}
use Rattle.mw_chart.proofs.Filling.{fills_put, fills_not, fills_full}
use Rattle.mw_chart.proofs.completing.complete_by.Goals as goal
use Rattle.mw_chart.proofs.completing.complete_by.Goals.{else-not-is_full-via-else-not-is_full, else-not-is_full-via-then-not-is_full+else-takes}

pub returns-in_ok-put_at-clause-ok : goal.returns-in_ok-put_at-clause-ok
returns-in_ok-put_at-clause-ok c =
    fills_put _ _ c.args.over.table.now c.args.constituent.now c.args.over.n c.args.over.kind c.args.over.below c.args.over.next c.args.over.tree.now c.in_ok-whole.whole
    c.requires.end (c.if-takes.ensures.0 refl) c.in_ok-whole.ensures c.in_ok-put_at.ensures.ok

pub returns-else-not-is_full-clause-ok : goal.returns-else-not-is_full-clause-ok
returns-else-not-is_full-clause-ok c =
    elim c.else-not-is_full.branch [
      | else-not-is_full-via-else-not-is_full w ↦
          fills_full c.args.cells.now.items c.args.over.table.now c.args.constituent.now c.args.over.n c.args.over.kind c.args.over.below c.args.over.next c.args.over.tree.now
          c.index.result.now (let p = c.requires.within in let q = c.requires.end in omega (arith, p, q)) c.requires.end c.index.ensures (w.if-not-is_full.ensures refl)
      | else-not-is_full-via-then-not-is_full+else-takes w ↦
          fills_not _ c.args.over.table.now c.args.constituent.now c.args.over.n c.args.over.kind c.args.over.below c.args.over.next c.args.over.tree.now
          (λ t. let bad = w.if-takes.ensures.1 t in let h : ⊥ = (cc) in h)
    ]
