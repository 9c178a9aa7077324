use Rattle.mw_prefix.proofs.Forming as law
use Rattle.mw_prefix.proofs.laws.forms_tell.Goals as goal

pub returns : goal.returns
returns c = law.forms_tell
