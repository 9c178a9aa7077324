use Rattle.std.proofs.Common.{sym, subst}
use Rattle.mw_module.specs.Known.{AreKnown}
use Rattle.mw_module.specs.Units.{seen_statements}
use Rattle.mw_omod.proofs.Declaring.{objects_known}
use Rattle.mw_omod.proofs.spreading.declare.Goals as goal

pub returns-clause-known : goal.returns-clause-known
returns-clause-known c known =
    subst AreKnown (sym c.in_ok-statements.ensures) (objects_known c.args.unit.line (seen_statements c.args.unit.statements.items) known)
