use Rattle.mw_poset.proofs.Reading.{MaximalSoFar}
use Rattle.mw_poset.proofs.Poset.maximal.Given as goal

abbrev pub invariant-loop-sort : goal.invariant-loop-sort
invariant-loop-sort l = MaximalSoFar l.self.pairs l.kind l.sort-index l.sort-items l.found.items
