use Rattle.mw_rule.proofs.Running.{rewritten_from}
use Rattle.mw_rule.proofs.rewriting.rewrite_alone.Goals as goal

pub of-proved-requires : goal.of-proved-requires
of-proved-requires c = rw c.in_ok-from.ensures (rewritten_from c.args.context.now c.shows.ensures c.args.bounds c.args.term c.requires.admitted
    c.new-machine.result c.new-machine.ensures c.run.new.machine c.in_ok-end.end c.in_ok-end.ensures).0

pub returns : goal.returns
returns c = rw (c.of-proved.ensures, c.in_ok-from.ensures) (rewritten_from c.args.context.now c.shows.ensures c.args.bounds c.args.term c.requires.admitted
    c.new-machine.result c.new-machine.ensures c.run.new.machine c.in_ok-end.end c.in_ok-end.ensures).1
