use Rattle.std.proofs.Common.{ap}
use Rattle.mw_match.specs.Hands.{coming_with}
use Rattle.mw_match.proofs.Begun.{begun_kept, begun_entries}
use Rattle.mw_match.proofs.solutions.begin.Goals as goal

pub invariant_of-result : goal.invariant_of-result
invariant_of-result c = (c.in_ok-hand.ensures.held, begun_kept c.args.parts c.args.given.now c.requires.sorts c.args.by_picks c.in_ok-picks.picks c.in_ok-picks.ensures)

pub returns : goal.returns
returns c none =
    ap (coming_with c.args.parts _) (begun_entries c.args.parts c.args.given.now c.requires.sorts c.args.by_picks c.in_ok-hand.hand c.in_ok-picks.picks (c.in_ok-hand.ensures.first none) c.in_ok-picks.ensures)
