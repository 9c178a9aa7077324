use Rattle.mw_term.specs.Signatures.{gather_of}
use Rattle.mw_alike.proofs.Alike.{mapped, gather_injective}
use Rattle.mw_alike.proofs.signatures.same_gathers.Goals as goal

pub returns : goal.returns
returns c = mapped gather_of gather_injective c.args.ones.now c.args.others.now c.all_same.result c.all_same.ensures
