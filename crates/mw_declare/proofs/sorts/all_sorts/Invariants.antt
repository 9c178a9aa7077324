use Rattle.std.proofs.Common.{◌≡◌, drop}
use Rattle.mw_module.specs.Units.{seen_all}
use Rattle.mw_declare.specs.Meaning.{sorts_from, sorts_of}
use Rattle.mw_declare.proofs.sorts.all_sorts.Given as goal

abbrev pub invariant-loop-statement : goal.invariant-loop-statement
invariant-loop-statement l = sorts_from l.sorts (seen_all (drop l.statement-index l.statements)) ≡ sorts_of (seen_all l.statements)
