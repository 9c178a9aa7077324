use Rattle.std.proofs.Common.{◌≡◌, ◌≤◌, length}
use Rattle.mw_module.specs.Units.{seen_statements, with_statements, body_of}
use Rattle.mw_module.proofs.units.read_body.Given as goal

abbrev pub invariant-loop-rest : goal.invariant-loop-rest
invariant-loop-rest l = record {
  body : with_statements (seen_statements l.statements.items) (body_of l.kind l.rest) ≡ body_of l.kind l.body;
  fewer : length l.rest ≤ length l.body;
}

abbrev pub decreases-loop-rest : goal.decreases-loop-rest
decreases-loop-rest l = length l.rest
