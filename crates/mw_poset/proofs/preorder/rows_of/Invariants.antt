use Rattle.mw_poset.specs.Tables.{AreRows}
use Rattle.mw_poset.proofs.Rows.{MarksSoFar}
use Rattle.mw_poset.proofs.preorder.rows_of.Given as goal

-- the rows of the first sorts, and no marks but theirs
abbrev pub invariant-loop-k : goal.invariant-loop-k
invariant-loop-k l = AreRows l.links l.k l.kinds l.groups.members.items l.rows.items × MarksSoFar l.links.sorts l.k l.marks.items
