use Rattle.mw_declare.proofs.Parts as law
use Rattle.mw_declare.proofs.laws.parts_are_there.Goals as goal

pub returns : goal.returns
returns c = law.parts_are_there
