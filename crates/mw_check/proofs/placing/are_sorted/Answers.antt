use Rattle.std.proofs.Common.{◌∙◌}
use Rattle.mw_check.proofs.PlacingValues.{sorts_told}
use Rattle.mw_check.proofs.placing.are_sorted.Goals as goal

pub returns : goal.returns
returns c =
    sorts_told c.args.context.now.signature c.shows.ensures.signature.accepted c.args.variables.now c.args.values.now c.requires.size c.requires.values c.as_slice.result.now (c.as_slice.ensures.value ∙ c.in_ok-sorts.ensures)
    c.have_sorts.result c.requires.distinct c.have_sorts.ensures.fits c.have_sorts.ensures.lacks
