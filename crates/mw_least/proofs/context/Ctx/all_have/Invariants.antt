use Rattle.std.specs.Prelude.{length}
use Rattle.mw_least.specs.Closed.{EachHas}
use Rattle.mw_least.proofs.context.Ctx.all_have.Given as goal

abbrev pub invariant-loop-rest : goal.invariant-loop-rest
invariant-loop-rest l = EachHas l.self.signature l.sort l.rest → EachHas l.self.signature l.sort l.terms

abbrev pub decreases-loop-rest : goal.decreases-loop-rest
decreases-loop-rest l = length l.rest
