use Rattle.mw_multiset.proofs.Gathering.{gathered}
use Rattle.mw_multiset.proofs.gathered.Goals as goal

pub returns : goal.returns
returns c = λ M f of. gathered M of.well f of.assoc of.comm of.free
