use Rattle.mw_sorts.proofs.Tabling.{AreDrawn}
use Rattle.mw_sorts.proofs.tables.all_diagrams.Given as goal

abbrev pub invariant-loop-index : goal.invariant-loop-index
invariant-loop-index l = AreDrawn l.signature l.sorting.places l.index l.diagrams.items
