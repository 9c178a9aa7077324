use Rattle.std.proofs.Common.{ap, sym, subst}
use Rattle.std.proofs.lemmas.Result.{IfOk-weaker}
use Rattle.mw_logic.specs.Terms.{terms_of}
use Rattle.mw_solving.specs.Reordered.{AreReordered}
use Rattle.mw_compile.proofs.Orders.{unchanged}
use Rattle.mw_compile.proofs.reordering.ordered.Goals as goal

pub returns-else-is_bag : goal.returns-else-is_bag
returns-else-is_bag c =
    let sig = c.args.singles.now in
    let ts = terms_of c.args.args.now in
    IfOk-weaker c.listed.result _ _ (λ us e. subst (AreReordered sig c.args.operator ts) (sym (ap terms_of e)) (unchanged sig c.args.operator ts)) c.listed.ensures
