use Rattle.mw_reduce.proofs.Reduced.{reduced_from}
use Rattle.mw_reduce.proofs.reducing.reduce.Goals as goal

pub of-proved-requires : goal.of-proved-requires
of-proved-requires c = rw c.in_ok-from.ensures (reduced_from c.args.context.now c.shows.ensures c.args.budget c.requires.nest c.args.term c.requires.admitted
    c.new-machine.result c.new-machine.ensures c.run_on.new.machine c.in_ok-driven.driven c.in_ok-driven.ensures.is).0

pub returns : goal.returns
returns c = rw (c.of-proved.ensures, c.in_ok-from.ensures) (reduced_from c.args.context.now c.shows.ensures c.args.budget c.requires.nest c.args.term c.requires.admitted
    c.new-machine.result c.new-machine.ensures c.run_on.new.machine c.in_ok-driven.driven c.in_ok-driven.ensures.is).1
