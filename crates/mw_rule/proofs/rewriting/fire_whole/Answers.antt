use Rattle.mw_frames.specs.Machines.{data_of}
use Rattle.mw_rule.specs.Stepped.{IsAt}
use Rattle.mw_rule.proofs.Places.{at_end}
use Rattle.mw_rule.proofs.rewriting.fire_whole.Goals as goal

pub returns : goal.returns
returns c = λ K k run here e of.
    let begun : IsAt K k (data_of K.over c.restart.new.self) c.args.whole c.args.whole = at_end K k (data_of K.over c.args.machine.now) c.args.whole e (data_of K.over c.restart.new.self) (c.restart.ensures K.over) in
    c.in_ok-fired.ensures K k c.args.whole run here begun of
