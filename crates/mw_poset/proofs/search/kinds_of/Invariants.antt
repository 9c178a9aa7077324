use Rattle.mw_poset.proofs.Reading.{KindsSoFar}
use Rattle.mw_poset.proofs.search.kinds_of.Given as goal

abbrev pub invariant-loop-k : goal.invariant-loop-k
invariant-loop-k l = KindsSoFar l.links l.k l.kinds.items
