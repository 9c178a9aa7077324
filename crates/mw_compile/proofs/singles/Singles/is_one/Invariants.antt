use Rattle.std.proofs.Common.{length}
use Rattle.std.specs.List.{All}
use Rattle.mw_compile.specs.Singles.{IsJoining}
use Rattle.mw_compile.proofs.singles.Singles.is_one.Given as goal

abbrev pub invariant-loop-rest : goal.invariant-loop-rest
invariant-loop-rest l = All (IsJoining l.self) l.rest

abbrev pub decreases-loop-rest : goal.decreases-loop-rest
decreases-loop-rest l = length l.rest
