use Rattle.mw_spot.proofs.Closing.{filled_in_order}
use Rattle.mw_spot.proofs.level.Level.with_one_in_order.Goals as goal

pub returns : goal.returns
returns c = λ comm orderly clear k.
    let l = c.self.inside in
    filled_in_order c.args.facts.now c.shows.ensures l.operator l.at l.others.items c.args.self c.self.view_is c.args.term k c.in_ok-term.term comm orderly clear c.put.new.done.items c.in_ok-put.ensures.own c.in_ok-term.ensures.is
