use Rattle.std.proofs.Common.{ap, subst, sym}
use Rattle.mw_pattern.specs.Clean.{clean}
use Rattle.mw_frames.specs.Arrivals.{StandsFor}
use Rattle.mw_frames.proofs.coming.wait_one.Goals as goal

pub returns-in_ok-wait_value-in-Var : goal.returns-in_ok-wait_value-in-Var
returns-in_ok-wait_value-in-Var c =
    let (x, e, h) = c.in_ok-wait_value-in-Var.ensures c.args.facts.now in
    (x, e, subst (λ p. StandsFor c.args.facts.now c.args.values.now c.args.base c.args.top p x) (sym (ap clean c.in-Var.is)) h)
