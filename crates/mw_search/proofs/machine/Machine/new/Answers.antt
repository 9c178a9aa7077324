use Rattle.std.proofs.Common.{arith, refl, true}
use Rattle.mw_search.specs.declared.machine.Machine.{Machine}
use Rattle.mw_search.proofs.Passing.{starting, ready_at_start}
use Rattle.mw_search.proofs.machine.Machine.new.Goals as goal

pub returns-clause-starts : goal.returns-clause-starts
returns-clause-starts c =
    let new : Machine = record { given = c.len.result; running = true; goals = c.in_ok-goals.goals; values = c.args.given; stack = c.new.result } in
    λ sig ps. starting sig ps new c.args.goal refl c.in_ok-goals.ensures.items c.new.ensures.items

pub returns-clause-ready : goal.returns-clause-ready
returns-clause-ready c =
    let new : Machine = record { given = c.len.result; running = true; goals = c.in_ok-goals.goals; values = c.args.given; stack = c.new.result } in
    λ sig ps. ready_at_start sig ps new (omega arith) c.new.ensures.items
