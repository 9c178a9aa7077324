use Rattle.std.proofs.Common.{◌≡◌, ◌++◌}
use Rattle.mw_module.specs.Units.{seen_statements}
use Rattle.mw_omod.specs.Declaring.{spread, object_statements}
use Rattle.mw_omod.proofs.spreading.declared.Given as goal

abbrev pub invariant-loop-statement : goal.invariant-loop-statement
invariant-loop-statement l = seen_statements l.all.items ++ spread (seen_statements l.statement-iterator.rest.items) ≡ object_statements l.line (seen_statements l.fn.statements.items)
