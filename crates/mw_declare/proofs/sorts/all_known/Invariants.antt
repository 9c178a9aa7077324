use Rattle.std.proofs.Common.{◌≡◌, drop}
use Rattle.mw_module.specs.Units.{seen_all}
use Rattle.mw_declare.specs.Faults.{unknown_from}
use Rattle.mw_declare.proofs.sorts.all_known.Given as goal

abbrev pub invariant-loop-statement : goal.invariant-loop-statement
invariant-loop-statement l = unknown_from l.sorts (seen_all (drop l.statement-index l.statements)) ≡ unknown_from l.sorts (seen_all l.statements)
