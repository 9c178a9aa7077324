use Rattle.std.proofs.Common.{ap, subst}
use Rattle.std.proofs.lemmas.Bool.{both_ways}
use Rattle.mw_logic.specs.Module.{Module}
use Rattle.mw_logic.specs.Preregular.{HasItsSorts}
use Rattle.mw_least.proofs.Below.{below_elsewhere}
use Rattle.mw_least.proofs.context.Ctx.is_below.Goals as goal

pub returns-else-are_there : goal.returns-else-are_there
returns-else-are_there c =
    let numbers = subst HasItsSorts (ap (λ (M : Module). M.signature) c.self.view_is) c.self.invariant.workable.numbers in
    below_elsewhere c.args.self.now.signature numbers c.args.lower c.args.upper (λ a b. both_ways _ c.if-are_there.false (c.are_there.ensures.1 (a, b)))
