use Rattle.std.proofs.Common.{length}
use Rattle.mw_search.specs.Machines.{machine_trace}
use Rattle.mw_search.proofs.Passing.{IsReached}
use Rattle.mw_search.proofs.machine.Machine.next.Given as goal

abbrev pub invariant-loop-self : goal.invariant-loop-self
invariant-loop-self l = IsReached l.context.signature l.positions l.initial.self l.self

abbrev pub decreases-loop-self : goal.decreases-loop-self
decreases-loop-self l = length (machine_trace l.context.signature l.positions l.self)
