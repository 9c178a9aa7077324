use Rattle.mw_match.proofs.Places.{made_from}
use Rattle.mw_match.proofs.parts.arguments_from.Goals as goal

pub returns-in_ok-made-in-Op : goal.returns-in_ok-made-in-Op
returns-in_ok-made-in-Op c =
    made_from c.args.term.now c.in_ok-made-in-Op.made c.in-Op.operator c.args.from c.in-Op.args.now c.in-Op.ensures c.in_ok-made-in-Op.ensures
