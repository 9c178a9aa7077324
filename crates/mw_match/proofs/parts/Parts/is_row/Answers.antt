use Rattle.std.proofs.Common.{◌<◌, subst}
use Rattle.mw_match.proofs.Places.{is_below}
use Rattle.mw_match.proofs.parts.Parts.is_row.Goals as goal

pub returns : goal.returns
returns c below vs = c.meets_rows.ensures c.if-not-meets_rows.false c.args.from (subst (λ n. c.args.from < n) c.count.ensures (is_below c.args.from c.count.result below)) vs
