use Rattle.std.proofs.Common.{◌∙◌, ap, arith}
use Rattle.mw_match.specs.Parts.{places_behind}
use Rattle.mw_match.proofs.Places.{more_neighbours}
use Rattle.mw_match.proofs.parts.place_behind.Goals as goal

pub returns-else-saturating_sub-lt3 : goal.returns-else-saturating_sub-lt3
returns-else-saturating_sub-lt3 c =
    let more = c.if-saturating_sub-lt3.false in
    let is = c.saturating_sub.ensures in
    ap (places_behind c.args.comm c.args.count) c.in-Left.is ∙ more_neighbours c.args.comm c.args.count c.in-Left.from c.if-comm.false (omega (arith, more, is))
