use Rattle.mw_search.proofs.BagLists.{IsWithout}
use Rattle.mw_search.proofs.bags.without.Given as goal

abbrev pub invariant-loop-i : goal.invariant-loop-i
invariant-loop-i l = IsWithout l.index l.elements l.i l.made.items
