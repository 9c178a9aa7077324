use Rattle.std.proofs.Common.{ap, ◌∙◌}
use Rattle.mw_poset.proofs.Steps.{mark_new, mark_old}
use Rattle.mw_poset.proofs.search.mark.Goals as goal
use Rattle.mw_poset.proofs.search.mark.Goals.{then-marks-place+in_ok-push, else-marks-place}

pub loop-sort-preserved : goal.loop-sort-preserved
loop-sort-preserved c = elim c.if-marks-place.branch [
  | then-marks-place+in_ok-push w ↦
      mark_new c.args.from c.args.sorts.now c.loop-sort.sort-index c.args.marks.now c.loop-sort.marks c.if-marks-place.marks c.args.waiting.now.items c.loop-sort.waiting.items c.if-marks-place.waiting.items
      c.loop-sort-test.true (c.requires c.loop-sort.sort-index 0 c.loop-sort-test.true) c.loop-sort.auto.marks c.loop-sort.invariant w.if-marks-place.true w.marks-is (ap (λ v. v.items) w.waiting-is ∙ w.in_ok-push.ensures.items)
  | else-marks-place w ↦
      mark_old c.args.from c.args.sorts.now c.loop-sort.sort-index c.args.marks.now c.loop-sort.marks c.if-marks-place.marks c.args.waiting.now.items c.loop-sort.waiting.items c.if-marks-place.waiting.items
      c.loop-sort-test.true (c.requires c.loop-sort.sort-index 0 c.loop-sort-test.true) c.loop-sort.invariant w.if-marks-place.false w.marks-is (ap (λ v. v.items) w.waiting-is)
]
