use Rattle.mw_module.proofs.Sources as law
use Rattle.mw_module.proofs.units.units_are_proper.Goals as goal

pub returns-clause-known : goal.returns-clause-known
returns-clause-known c = law.units_are_known

pub returns-clause-tokens : goal.returns-clause-tokens
returns-clause-tokens c = law.units_are_of_tokens
