use Rattle.std.proofs.Common.{[], take}
use Rattle.mw_module.specs.Units.{seen_all}
use Rattle.mw_build.specs.Classes.{declared_in, AreRolesOf}
use Rattle.mw_build.proofs.classes.note_all.Given as goal

abbrev pub invariant-loop-statement : goal.invariant-loop-statement
invariant-loop-statement l = AreRolesOf l.target [] l.fn.roles → AreRolesOf l.target (declared_in (seen_all (take l.statement-index l.statements))) l.roles
