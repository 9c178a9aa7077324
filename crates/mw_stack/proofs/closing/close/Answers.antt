use Rattle.std.proofs.Common.{◌∙◌}
use Rattle.std.proofs.lemmas.Result.{IfOk-weaker}
use Rattle.mw_canon.proofs.Ordered.{elements_in_order}
use Rattle.mw_stack.proofs.closing.close.Goals as goal

pub returns-in-Associative-clause-is : goal.returns-in-Associative-clause-is
returns-in-Associative-clause-is c = λ k e o.
    IfOk-weaker c.collected.result _ _ (λ t h. h ∙ elements_in_order c.args.facts.now c.args.operator _ c.in-Associative.ensures.0 (e c.in-Associative.ensures.0) o) c.collected.ensures.is
