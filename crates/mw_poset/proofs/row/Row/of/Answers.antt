use Rattle.std.proofs.Common.{ap, subst, sym, List, ℕ, ◌+◌}
use Rattle.mw_poset.proofs.Bits.{RowSoFar, row_written, row_passed}
use Rattle.mw_poset.proofs.row.Row.of.Goals as goal
use Rattle.mw_poset.proofs.row.Row.of.Goals.{then-marks-sort, else-marks-sort}

pub loop-place-preserved : goal.loop-place-preserved
loop-place-preserved c = elim c.if-marks-sort.branch [
  | then-marks-sort w ↦
      subst (λ (xs : List ℕ). RowSoFar c.args.from (c.loop-place.place + 1) c.args.marks.now c.args.members.now xs) (sym (ap (λ v. v.items) w.words-is))
      (row_written c.args.from c.loop-place.place c.loop-place.words.len c.args.marks.now c.args.members.now c.loop-place.words.items w.as_mut_slice.result.now w.insert.new.words c.loop-place.invariant
      w.if-marks-sort.true w.as_mut_slice.ensures.value c.loop-place.words.ok.0 w.insert.auto.words w.insert.ensures)
  | else-marks-sort w ↦
      subst (λ (xs : List ℕ). RowSoFar c.args.from (c.loop-place.place + 1) c.args.marks.now c.args.members.now xs) (sym (ap (λ v. v.items) w.words-is))
      (row_passed c.args.from c.loop-place.place c.args.marks.now c.args.members.now c.loop-place.words.items c.loop-place.invariant w.if-marks-sort.false)
]
