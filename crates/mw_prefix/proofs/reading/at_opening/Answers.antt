use Rattle.std.proofs.Common.{refl, arith}
use Rattle.mw_prefix.proofs.Frames.{opening_is, shut_is}
use Rattle.mw_prefix.proofs.reading.at_opening.Goals as goal

pub returns-then-len-ge-MOST_OPEN : goal.returns-then-len-ge-MOST_OPEN
returns-then-len-ge-MOST_OPEN c = shut_is c.args.levels.now.items c.args.operator (grind (arith, c.if-len-ge-MOST_OPEN.true, c.len.ensures))

pub returns : goal.returns
returns c = opening_is c.args.levels.now.items _ _ c.args.operator refl c.new-args.ensures.items c.in_ok-push.ensures.items (grind (arith, c.if-len-ge-MOST_OPEN.false, c.len.ensures))
