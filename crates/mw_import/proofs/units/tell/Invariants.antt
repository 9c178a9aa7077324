use Rattle.std.proofs.Common.{◌≡◌, ◌++◌, map, drop}
use Rattle.mw_module.specs.Units.{seen_statements, seen_all}
use Rattle.mw_import.specs.Flat.{told_at}
use Rattle.mw_import.proofs.units.tell.Given as goal

abbrev pub invariant-loop-statement : goal.invariant-loop-statement
invariant-loop-statement l =
    seen_all l.all.items ++ map (told_at l.line) (seen_statements (drop l.statement-index l.statements)) ≡ seen_all l.fn.all.items ++ map (told_at l.line) (seen_statements l.statements)
