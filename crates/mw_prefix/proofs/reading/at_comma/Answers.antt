use Rattle.std.proofs.Common.{refl}
use Rattle.mw_prefix.proofs.Frames.{comma_is}
use Rattle.mw_prefix.proofs.reading.at_comma.Goals as goal

pub returns : goal.returns
returns c = comma_is _ _ _ c.in-Some.level _ _ _ c.in-Some.ensures.items c.in_ok-push.ensures.items refl refl c.in_ok-push-2.ensures.items
