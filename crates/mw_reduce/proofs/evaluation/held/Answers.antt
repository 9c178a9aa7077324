use Rattle.std.proofs.Common.{sym, subst, refl}
use Rattle.std.proofs.lemmas.Bool.{both_ways}
use Rattle.mw_logic.specs.Module.{is_true}
use Rattle.mw_reduce.specs.Evaluations.{bound_to, IsHolding}
use Rattle.mw_reduce.proofs.Deciding.{true_holds, true_fails}
use Rattle.mw_reduce.proofs.evaluation.held.Goals as goal

pub returns-then-not-is_true_term : goal.returns-then-not-is_true_term
returns-then-not-is_true_term c = λ n limit xs vs u h.
    true_fails c.args.context.now n limit xs vs u c.args.side h c.shows.ensures.signature.accepted (λ t. both_ways c.is_true_term.result c.if-not-is_true_term.true (c.is_true_term.ensures.1 t))

pub returns : goal.returns
returns c = λ n limit xs vs u h.
    let M = c.args.context.now in
    (refl, subst (IsHolding M n (is_true u) (bound_to M.signature xs vs)) (sym c.in_ok-sides.ensures) (true_holds M n limit xs vs u c.args.side h (c.is_true_term.ensures.0 c.if-not-is_true_term.false)))
