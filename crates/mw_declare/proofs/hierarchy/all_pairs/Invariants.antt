use Rattle.std.proofs.Common.{◌≡◌, ◌++◌, drop}
use Rattle.mw_module.specs.Units.{seen_all}
use Rattle.mw_declare.specs.Hierarchy.{pairs_from}
use Rattle.mw_declare.proofs.hierarchy.all_pairs.Given as goal

abbrev pub invariant-loop-statement : goal.invariant-loop-statement
invariant-loop-statement l = l.pairs.items ++ pairs_from l.names (seen_all (drop l.statement-index l.statements)) ≡ pairs_from l.names (seen_all l.statements)
