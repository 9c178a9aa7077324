use Rattle.std.proofs.Common.{◌∙◌, ap, refl}
use Rattle.mw_sorts.specs.Diagrams.{Row}
use Rattle.mw_sorts.specs.Marks.{is_marked}
use Rattle.mw_sorts.proofs.Getting.{read-get}
use Rattle.mw_sorts.proofs.Marking.{marked-found, level-more}
use Rattle.mw_sorts.proofs.fault.level_marks.Goals as goal

pub loop-row-preserved : goal.loop-row-preserved
loop-row-preserved c =
    let i = c.loop-row.row-index in
    level-more c.args.level.now c.args.next.now i c.row-item.result c.loop-row.marks.items c.push.new.self.items c.is_some.result c.loop-row.invariant c.loop-row-test.true
    (read-get c.args.level.now c.args.level.now i c.row-item.result refl c.loop-row-test.true c.row-item.is)
    (c.is_some.ensures ∙ marked-found c.as_slice.result.now c.args.next.now c.first_marked.result c.first_marked.ensures ∙ ap (λ (r : Row). is_marked c.args.next.now r) c.as_slice.ensures) c.in_ok-push.ensures.items
