use Rattle.mw_survey.proofs.Again.{rise_there}
use Rattle.mw_survey.proofs.parts.several.Goals as goal

pub chosen-requires : goal.chosen-requires
chosen-requires c = rise_there c.args.facts.now c.args.numbers.now c.args.term.now c.requires.0 c.in-Op.operator c.in-Op.args.now c.in-Op.ensures c.requires.1
