use Rattle.std.proofs.Common.{drop}
use Rattle.mw_module.specs.Units.{seen_statements}
use Rattle.mw_import.proofs.Imports.{IsOnTheWay}
use Rattle.mw_import.proofs.units.Units.flatten.Given as goal

abbrev pub invariant-loop-statement : goal.invariant-loop-statement
invariant-loop-statement l = IsOnTheWay l.self l.name (seen_statements l.statements) (seen_statements (drop l.statement-index l.statements)) l.there.keys
