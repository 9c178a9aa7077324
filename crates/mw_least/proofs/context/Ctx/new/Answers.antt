use Rattle.std.proofs.Common.{subst}
use Rattle.mw_logic.specs.Signature.{Signature}
use Rattle.mw_builtin.specs.Schemata.{AreSchemataOf}
use Rattle.mw_least.specs.Closed.{AreHomes}
use Rattle.mw_least.specs.Sure.{AreSure}
use Rattle.mw_least.proofs.context.Ctx.new.Goals as goal

pub invariant_of-context : goal.invariant_of-context
invariant_of-context c = record {
  workable = c.requires.workable;
  order = c.requires.order;
  tables = c.requires.tables;
  each_sure = subst (λ (s : Signature). AreSure s c.in_ok-sure.sure) c.signature.ensures c.in_ok-sure.ensures;
  each_home = subst (λ (s : Signature). AreHomes s s.operators c.in_ok-homes.homes) c.signature-2.ensures c.in_ok-homes.ensures;
  computing = subst (λ (s : Signature). AreSchemataOf s c.in_ok-schemata.schemata) c.signature-3.ensures c.in_ok-schemata.ensures;
}
