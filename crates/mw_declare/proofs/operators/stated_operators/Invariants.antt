use Rattle.std.proofs.Common.{◌≡◌, [], None, drop}
use Rattle.mw_module.specs.Units.{seen_all}
use Rattle.mw_declare.specs.Operators.{operators_from}
use Rattle.mw_declare.specs.Faults.{unknown_from}
use Rattle.mw_declare.proofs.operators.stated_operators.Given as goal

abbrev pub invariant-loop-statement : goal.invariant-loop-statement
invariant-loop-statement l = record {
  same : operators_from l.hierarchy l.operators (seen_all (drop l.statement-index l.statements)) ≡ operators_from l.hierarchy [] (seen_all l.statements);
  known : unknown_from l.hierarchy.names (seen_all (drop l.statement-index l.statements)) ≡ None;
}
