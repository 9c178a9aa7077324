use Rattle.std.proofs.Common.{◌≡◌, ◌++◌, map, drop}
use Rattle.mw_module.specs.Units.{seen_all}
use Rattle.mw_import.specs.Flat.{told_at, statements_of}
use Rattle.mw_import.proofs.units.Units.statements.Given as goal

abbrev pub invariant-loop-unit : goal.invariant-loop-unit
invariant-loop-unit l =
    seen_all l.all.items ++ map (told_at l.line) (statements_of l.self (drop l.unit-index l.unit-items)) ≡ map (told_at l.line) (statements_of l.self l.unit-items)
