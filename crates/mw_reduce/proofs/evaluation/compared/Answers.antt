use Rattle.std.proofs.Common.{sym, subst, refl}
use Rattle.std.proofs.lemmas.Bool.{both_ways}
use Rattle.mw_logic.specs.Module.{equal}
use Rattle.mw_reduce.specs.Evaluations.{bound_to, IsHolding}
use Rattle.mw_reduce.proofs.Deciding.{equal_holds, equal_fails}
use Rattle.mw_reduce.proofs.evaluation.compared.Goals as goal

pub returns-then-not-same : goal.returns-then-not-same
returns-then-not-same c = λ M n limit xs vs u v work h g.
    equal_fails M n limit xs vs u c.args.first h v c.args.second g work.signature.accepted (λ e. both_ways c.same.result c.if-not-same.true (c.same.ensures.1 e))

pub returns : goal.returns
returns c = λ M n limit xs vs u v work h g.
    (refl, subst (IsHolding M n (equal u v) (bound_to M.signature xs vs)) (sym c.in_ok-sides.ensures) (equal_holds M n limit xs vs u c.args.first h v c.args.second g (c.same.ensures.0 c.if-not-same.false)))
