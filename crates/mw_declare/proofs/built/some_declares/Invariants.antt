use Rattle.std.proofs.Common.{◌≡◌, drop}
use Rattle.mw_module.specs.Units.{seen_all}
use Rattle.mw_declare.specs.Built as built
use Rattle.mw_declare.specs.Seen.{seen_name}
use Rattle.mw_declare.proofs.built.some_declares.Given as goal

abbrev pub invariant-loop-statement : goal.invariant-loop-statement
invariant-loop-statement l = built.some_declares l.name (seen_name l.sort) l.value (seen_all (drop l.statement-index l.statements)) ≡ built.some_declares l.name (seen_name l.sort) l.value (seen_all l.statements)
