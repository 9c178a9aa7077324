use Rattle.mw_grammar.proofs.KindsByOrder.{HasKindsOf}
use Rattle.mw_grammar.proofs.kinds.kinds_of.Given as goal

abbrev pub invariant-loop-k : goal.invariant-loop-k
invariant-loop-k l = HasKindsOf l.order.pairs l.k l.kinds.items
