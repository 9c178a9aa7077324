use Rattle.std.specs.Prelude.{Some, None}
use Rattle.mw_prefix.proofs.Frames.{closing_is}
use Rattle.mw_prefix.proofs.reading.at_closing.Goals as goal

pub returns-in-Some-taken : goal.returns-in-Some-taken
returns-in-Some-taken c = closing_is c.args.facts.now c.args.levels.now.items c.pop.new.self.items c.in-Some.level c.args.term c.push.new.self.items (Some c.in-Some-taken.term) c.in-Some.ensures.items c.in_ok-push.ensures.items c.in-Some-taken.ensures

pub returns-in-None : goal.returns-in-None
returns-in-None c = closing_is c.args.facts.now c.args.levels.now.items c.pop.new.self.items c.in-Some.level c.args.term c.push.new.self.items None c.in-Some.ensures.items c.in_ok-push.ensures.items c.in-None.ensures
