use Rattle.std.proofs.Common.{sym, refl, arith}
use Rattle.mw_chart.proofs.Started.{opens_put, opens_not}
use Rattle.mw_chart.proofs.predicting.predict_production.Goals as goal
use Rattle.mw_chart.proofs.predicting.predict_production.Goals.{else-given-kind-via-then-given-kind+then-precedence-below+then-is_live+else-not-is_full, else-given-kind-via-then-given-kind+then-precedence-below+else-is_live, else-given-kind-via-then-given-kind+else-precedence-below, else-given-kind-via-else-given-kind}

pub returns-in_ok-put-in-Some-Hole : goal.returns-in_ok-put-in-Some-Hole
returns-in_ok-put-in-Some-Hole c =
    let st = sym (rw c.in-Some-Hole.field-0-is at c.in-Some-Hole.ensures) in
    opens_put _ _ c.args.table.now c.args.text.now c.args.at c.args.kind c.args.precedence c.args.tree.now c.args.production.now c.in-Some-Hole.below c.in-Some-Hole.next _
    (rw c.if-given-kind.true at st) c.if-precedence-below.true (c.if-is_live.ensures.0 refl)
    (rw c.in_ok-first-in-Some-Hole.ensures at c.in_ok-whole-in-Some-Hole.ensures) c.in_ok-put-in-Some-Hole.ensures

pub returns-else-given-kind : goal.returns-else-given-kind
returns-else-given-kind c =
    opens_not _ c.args.table.now c.args.text.now c.args.at c.args.kind c.args.precedence c.args.tree.now c.args.production.now c.in-Some-Hole.given c.in-Some-Hole.below c.in-Some-Hole.next
    (sym (rw c.in-Some-Hole.field-0-is at c.in-Some-Hole.ensures))
    (λ same le live. elim c.else-given-kind.branch [
      | else-given-kind-via-then-given-kind+then-precedence-below+then-is_live+else-not-is_full w ↦ w.if-not-is_full.ensures refl
      | else-given-kind-via-then-given-kind+then-precedence-below+else-is_live w ↦ let bad = w.if-is_live.ensures.1 live in let h : ⊥ = (cc) in absurd h
      | else-given-kind-via-then-given-kind+else-precedence-below w ↦ absurd (omega (arith, w.if-precedence-below.false, le))
      | else-given-kind-via-else-given-kind w ↦ absurd (w.if-given-kind.false same)
    ])
