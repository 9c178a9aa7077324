use Rattle.std.proofs.Common.{◌∙◌}
use Rattle.mw_spot.proofs.Calls.{filled_is}
use Rattle.mw_spot.proofs.level.Level.with_one.Goals as goal

pub returns : goal.returns
returns c = let l = c.self.inside in c.in_ok-term.ensures ∙ filled_is c.args.facts.now l.operator l.at l.others.items c.insert.new.self.items c.args.term c.args.self c.self.view_is c.in_ok-insert.ensures.items
