use Rattle.mw_poset.proofs.Bits.{RowSoFar}
use Rattle.mw_poset.proofs.row.Row.of.Given as goal

abbrev pub invariant-loop-place : goal.invariant-loop-place
invariant-loop-place l = RowSoFar l.from l.place l.marks l.members l.words.items
