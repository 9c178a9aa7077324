use Rattle.std.specs.Prelude.{List, ◌++◌, length}
use Rattle.mw_least.specs.declared.closed.Home.{Home}
use Rattle.mw_least.specs.Closed.{AreHomes}
use Rattle.mw_least.proofs.closed.homes_among.Given as goal

abbrev pub invariant-loop-rest : goal.invariant-loop-rest
invariant-loop-rest l = (hs : List Home) → AreHomes l.signature l.rest hs → AreHomes l.signature l.signature.operators (l.homes.items ++ hs)

abbrev pub decreases-loop-rest : goal.decreases-loop-rest
decreases-loop-rest l = length l.rest
