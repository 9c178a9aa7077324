use Rattle.std.proofs.Common.{◌≡◌, ◌++◌, drop}
use Rattle.mw_module.specs.Units.{seen_statements, seen_all}
use Rattle.mw_import.proofs.units.add_own.Given as goal

abbrev pub invariant-loop-statement : goal.invariant-loop-statement
invariant-loop-statement l = seen_all l.all.items ++ seen_statements (drop l.statement-index l.own) ≡ seen_all l.fn.all.items ++ seen_statements l.own
