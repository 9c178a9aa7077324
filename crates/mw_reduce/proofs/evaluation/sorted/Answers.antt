use Rattle.std.proofs.Common.{sym, subst, refl}
use Rattle.std.proofs.lemmas.Bool.{both_ways}
use Rattle.mw_logic.specs.Module.{has_sort}
use Rattle.mw_term.specs.Signatures.{sorted_of}
use Rattle.mw_reduce.specs.Evaluations.{bound_to, IsHolding}
use Rattle.mw_reduce.proofs.Deciding.{sort_holds, sort_fails}
use Rattle.mw_reduce.proofs.evaluation.sorted.Goals as goal

pub returns-then-not-meets : goal.returns-then-not-meets
returns-then-not-meets c = λ n limit xs vs u h.
    let M = c.args.context.now in
    sort_fails M n limit xs vs u c.args.side h (sorted_of c.args.sort) (λ m. both_ways c.meets.result c.if-not-meets.true ((c.meets.ensures M n refl h.normal).1 m))

pub returns : goal.returns
returns c = λ n limit xs vs u h.
    let M = c.args.context.now in
    let S = sorted_of c.args.sort in
    (refl, subst (IsHolding M n (has_sort u S) (bound_to M.signature xs vs)) (sym c.in_ok-sides.ensures) (sort_holds M n limit xs vs u c.args.side h S ((c.meets.ensures M n refl h.normal).0 c.if-not-meets.false)))
