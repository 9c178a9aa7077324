use Rattle.mw_alike.proofs.Alike.{raws_walked}
use Rattle.mw_alike.proofs.raws.+raws.Goals as goal

pub same_raws-returns : goal.same_raws-returns
same_raws-returns t c = raws_walked c.args.ones.now c.args.others.now c.loop-rest.rest.now c.loop-rest.left.now c.is_empty.result c.loop-rest.invariant.left c.in_default.len_below c.is_empty.ensures
