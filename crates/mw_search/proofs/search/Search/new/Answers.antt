use Rattle.std.proofs.Common.{subst}
use Rattle.mw_logic.specs.Signature.{Signature}
use Rattle.mw_search.specs.Machines.{IsReady}
use Rattle.mw_search.proofs.search.Search.new.Goals as goal

pub invariant_of-result : goal.invariant_of-result
invariant_of-result c =
    subst (λ (sig : Signature). IsReady sig c.args.positions.now c.in_ok-machine.machine) c.facts.ensures (c.in_ok-machine.ensures.ready c.args.positions.now)
