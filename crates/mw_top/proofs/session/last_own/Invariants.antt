use Rattle.std.proofs.Common.{◌≡◌, ◌++◌, List, length}
use Rattle.mw_build.specs.Modules.{Accepted}
use Rattle.mw_top.specs.Commands.{last_module}
use Rattle.mw_top.proofs.session.last_own.Given as goal

abbrev pub invariant-loop-rest : goal.invariant-loop-rest
invariant-loop-rest l = record {
  front : (more : List Accepted) × (l.modules ≡ l.rest ++ more);
  last : last_module l.modules ≡ last_module l.rest;
}

abbrev pub decreases-loop-rest : goal.decreases-loop-rest
decreases-loop-rest l = length l.rest
