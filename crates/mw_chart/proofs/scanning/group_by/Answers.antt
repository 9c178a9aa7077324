use Rattle.std.proofs.Common.{refl}
use Rattle.mw_chart.proofs.Started.{groups_put, groups_not}
use Rattle.mw_chart.proofs.Adding.{if_ok_more}
use Rattle.mw_chart.proofs.scanning.group_by.Goals as goal

pub returns-in_ok-again-in-Some-clause-ok : goal.returns-in_ok-again-in-Some-clause-ok
returns-in_ok-again-in-Some-clause-ok c =
    if_ok_more c.put_at.result _ _
    (λ x p. groups_put _ _ c.args.table.now c.args.text.now c.args.constituent.now c.in-Some.state _ (c.if-stands.ensures.0 refl) c.in-Some.ensures.some c.in_ok-again-in-Some.ensures p)
    c.put_at.ensures.ok

pub returns-else-stands-clause-ok : goal.returns-else-stands-clause-ok
returns-else-stands-clause-ok c =
    groups_not _ c.args.table.now c.args.text.now c.args.constituent.now
    (λ kind precedence s st to e. let bad = c.if-stands.ensures.1 e in let h : ⊥ = (cc) in h)
