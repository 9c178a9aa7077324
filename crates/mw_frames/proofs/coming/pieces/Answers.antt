use Rattle.std.proofs.Common.{sym}
use Rattle.mw_frames.proofs.Values.{spread_own, spread_one, alone_empty, alone_other, alone_leaf}
use Rattle.mw_frames.proofs.coming.pieces.Goals as goal
use Rattle.mw_frames.proofs.coming.pieces.Goals.{in_default-view-via-in-Op+then-f-operator+else-not-is_empty, in_default-view-via-in-Op+else-f-operator, in_default-view-via-in_default-view}

pub returns-in-Op-clause-spread : goal.returns-in-Op-clause-spread
returns-in-Op-clause-spread c =
    spread_own c.args.facts.now c.args.operator c.args.term.now c.in-Associative.ensures.0 c.in-Op.f c.in-Op.args.now c.in-Op.ensures c.if-f-operator.true (sym c.if-not-is_empty.ensures)

pub returns-else-is_empty-clause-alone : goal.returns-else-is_empty-clause-alone
returns-else-is_empty-clause-alone c =
    spread_one c.args.facts.now c.args.operator c.args.term.now c.in-Associative.ensures.0 c.parts-found.result.now c.parts-found.ensures (sym c.if-is_empty.ensures)
    (elim c.in_default-view.branch [
      | in_default-view-via-in-Op+then-f-operator+else-not-is_empty w ↦ alone_empty c.args.operator w.in-Op.f c.args.term.now w.in-Op.args.now w.in-Op.ensures (sym w.if-not-is_empty.ensures)
      | in_default-view-via-in-Op+else-f-operator w ↦ alone_other c.args.operator w.in-Op.f c.args.term.now w.in-Op.args.now w.in-Op.ensures w.if-f-operator.false
      | in_default-view-via-in_default-view w ↦ alone_leaf c.args.operator c.args.term.now c.view.result c.view.ensures (λ f ts. w.in_default-view.not-Op f ts)
    ])
