use Rattle.std.proofs.Common.{refl}
use Rattle.mw_chart.proofs.Started.{begins_put, begins_not}
use Rattle.mw_chart.proofs.scanning.scan_production.Goals as goal

pub returns-in_ok-put_at-clause-ok : goal.returns-in_ok-put_at-clause-ok
returns-in_ok-put_at-clause-ok c =
    begins_put _ _ c.args.table.now c.args.text.now c.args.i c.args.production.now c.in-Some.token c.in-Some.next _
    c.in-Some.ensures.some (c.if-stands.ensures.0 refl) c.in_ok-head.ensures c.in_ok-put_at.ensures.ok

pub returns-else-stands-clause-ok : goal.returns-else-stands-clause-ok
returns-else-stands-clause-ok c =
    begins_not _ c.args.table.now c.args.text.now c.args.i c.args.production.now c.in-Some.token c.in-Some.next
    c.in-Some.ensures.some (λ e. let bad = c.if-stands.ensures.1 e in let h : ⊥ = (cc) in h)
