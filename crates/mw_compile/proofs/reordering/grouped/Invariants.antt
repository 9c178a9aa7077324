use Rattle.mw_compile.proofs.Orders.{AreGrouped}
use Rattle.mw_compile.proofs.reordering.grouped.Given as goal

abbrev pub invariant-loop-arg : goal.invariant-loop-arg
invariant-loop-arg l = AreGrouped l.singles l.operator l.args l.arg-index l.groups
