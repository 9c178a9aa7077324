use Rattle.mw_term.specs.Statements.{fragment_of}
use Rattle.mw_alike.proofs.Alike.{mapped, fragment_injective}
use Rattle.mw_alike.proofs.statements.same_fragments.Goals as goal

pub returns : goal.returns
returns c = mapped fragment_of fragment_injective c.args.ones.now c.args.others.now c.all_same.result c.all_same.ensures
