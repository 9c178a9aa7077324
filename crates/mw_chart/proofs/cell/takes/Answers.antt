use Rattle.std.proofs.Common.{◌≡◌, arith}
use Rattle.std.proofs.lemmas.Bool.{ltb-true, lt-ltb}
use Rattle.mw_chart.proofs.Lists.{one_there}
use Rattle.mw_chart.proofs.cell.takes.Goals as goal

pub returns-then-given-kind : goal.returns-then-given-kind
returns-then-given-kind c =
    let st = rw c.if-given-kind.true at c.in-Some.ensures.some in (
      λ e. (c.in-Some.precedence, st, ltb-true _ _ e),
      λ (p, st2, lt). let q = one_there _ c.args.state _ _ st2 st in let same : p ≡ c.in-Some.precedence = (cc) in lt-ltb _ _ (omega (arith, lt, same)),
    )
