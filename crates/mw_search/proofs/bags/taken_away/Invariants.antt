use Rattle.std.proofs.Common.{drop}
use Rattle.mw_logic.specs.Terms.{terms_of}
use Rattle.mw_search.proofs.BagLists.{IsTaking}
use Rattle.mw_search.proofs.bags.taken_away.Given as goal

abbrev pub invariant-loop-element : goal.invariant-loop-element
invariant-loop-element l = IsTaking (terms_of l.taken) (terms_of l.elements) (terms_of (drop l.gone l.taken)) (terms_of (drop l.element-index l.elements)) (terms_of l.left.items)
