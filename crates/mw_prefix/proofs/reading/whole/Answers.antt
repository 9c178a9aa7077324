use Rattle.std.proofs.Common.{arith}
use Rattle.mw_prefix.proofs.Frames.{open_whole}
use Rattle.mw_prefix.proofs.reading.whole.Goals as goal

pub returns-then-not-is_empty : goal.returns-then-not-is_empty
returns-then-not-is_empty c = open_whole c.args.levels.now (grind (arith, c.is_empty.ensures, c.if-not-is_empty.true)) c.args.facts.now _
