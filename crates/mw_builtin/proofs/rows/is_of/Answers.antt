use Rattle.std.proofs.Common.{subst}
use Rattle.mw_canon.specs.Axioms.{IsKindNamed}
use Rattle.mw_builtin.proofs.Naming.{of_kind}
use Rattle.mw_builtin.proofs.rows.is_of.Goals as goal

pub returns-in-Some : goal.returns-in-Some
returns-in-Some c sig name ok e k = of_kind sig c.args.order.now name c.in-Some.kind c.kind_of.result c.args.sort ok e (subst (IsKindNamed sig name) c.in-Some.is k) c.kind_of.ensures
