use Rattle.mw_declare.proofs.KindsApart as law
use Rattle.mw_declare.proofs.laws.declared_apart.Goals as goal

pub returns : goal.returns
returns c = law.declared_apart
