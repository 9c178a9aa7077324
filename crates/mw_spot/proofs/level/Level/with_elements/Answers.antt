use Rattle.mw_spot.proofs.Closing.{filled_between}
use Rattle.mw_spot.proofs.level.Level.with_elements.Goals as goal

pub returns : goal.returns
returns c = λ comm clear k.
    let l = c.self.inside in
    filled_between c.args.facts.now c.shows.ensures l.operator l.at l.others.items c.args.self c.self.view_is c.args.term k c.in_ok-term.term comm clear c.split_off.new.self.items c.in_ok-behind.behind.items c.put.new.done.items c.append.new.self.items
    c.in_ok-behind.ensures.items c.in_ok-behind.ensures.tail c.in_ok-put.ensures.own c.in_ok-append.ensures.items c.in_ok-term.ensures.is
