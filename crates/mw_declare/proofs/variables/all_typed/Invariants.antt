use Rattle.std.proofs.Common.{◌≡◌, Ok, drop}
use Rattle.mw_module.specs.Units.{seen_statements}
use Rattle.mw_declare.specs.Faults.{typing_from, typing_of}
use Rattle.mw_declare.proofs.variables.all_typed.Given as goal

abbrev pub invariant-loop-statement : goal.invariant-loop-statement
invariant-loop-statement l = typing_from (Ok l.typing) (seen_statements (drop l.statement-index l.statements)) ≡ typing_of (seen_statements l.statements)
