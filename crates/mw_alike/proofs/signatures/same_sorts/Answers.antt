use Rattle.mw_term.specs.Signatures.{sorted_of}
use Rattle.mw_alike.proofs.Alike.{mapped, sorted_injective}
use Rattle.mw_alike.proofs.signatures.same_sorts.Goals as goal

pub returns : goal.returns
returns c = mapped sorted_of sorted_injective c.args.ones.now c.args.others.now c.all_same.result c.all_same.ensures
