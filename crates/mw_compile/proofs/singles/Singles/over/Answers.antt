use Rattle.std.proofs.Common.{subst}
use Rattle.mw_compile.specs.Singles.{IsOne}
use Rattle.mw_compile.proofs.Sure.{ones_push}
use Rattle.mw_compile.proofs.singles.Singles.over.Goals.{then-is_one_under+in_ok-push, else-is_one_under}
use Rattle.mw_compile.proofs.singles.Singles.over.Goals as goal

pub loop-joining-preserved : goal.loop-joining-preserved
loop-joining-preserved c = elim c.if-is_one_under.branch [
  | then-is_one_under+in_ok-push w ↦ rw (w.found-is, w.in_ok-push.ensures.items)
      (ones_push c.args.self.now c.args.sort c.loop-joining.found.items c.joining-item.result.operator
      (subst (λ sig. IsOne sig c.joining-item.result.operator c.args.sort) c.self.view_is (c.is_one_under.ensures w.if-is_one_under.true)) c.loop-joining.invariant)
  | else-is_one_under w ↦ rw w.found-is c.loop-joining.invariant
]
