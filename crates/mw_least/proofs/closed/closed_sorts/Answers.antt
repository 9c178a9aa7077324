use Rattle.std.proofs.Common.{subst}
use Rattle.mw_logic.specs.Signature.{Member}
use Rattle.mw_least.proofs.Homes.{all_but_last}
use Rattle.mw_least.proofs.closed.closed_sorts.Goals.{then-are_constants_within+in_ok-outside+in_ok-push, else-are_constants_within}
use Rattle.mw_least.proofs.closed.closed_sorts.Goals as goal

pub loop-sort-preserved : goal.loop-sort-preserved
loop-sort-preserved c =
    let sig = c.args.signature.now in
    elim c.if-are_constants_within.branch [
      | then-are_constants_within+in_ok-outside+in_ok-push w ↦
          λ d m. all_but_last sig _ _ c.loop-sort.invariant (record { constants = c.are_constants_within.ensures w.if-are_constants_within.true; operators = w.in_ok-outside.ensures }) d (subst (λ xs. Member d xs) w.in_ok-push.ensures.items (subst (λ v. Member d v.items) w.closed-is m))
      | else-are_constants_within w ↦ λ d m. c.loop-sort.invariant d (subst (λ v. Member d v.items) w.closed-is m)
    ]
