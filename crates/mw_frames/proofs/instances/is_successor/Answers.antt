use Rattle.std.proofs.Common.{sym}
use Rattle.mw_frames.proofs.HoleFits.{assoc_not_successor}
use Rattle.mw_frames.proofs.instances.is_successor.Goals as goal

pub returns-in-Associative : goal.returns-in-Associative
returns-in-Associative c = sym (assoc_not_successor c.args.facts.now c.shows.ensures c.args.operator c.in-Associative.ensures.0)
