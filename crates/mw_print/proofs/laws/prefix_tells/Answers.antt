use Rattle.mw_print.proofs.PrefixTold.{prefix_told, prefix_text_told}
use Rattle.mw_print.proofs.laws.prefix_tells.Goals as goal

pub returns-clause-tokens : goal.returns-clause-tokens
returns-clause-tokens c = prefix_told

pub returns-clause-text : goal.returns-clause-text
returns-clause-text c = prefix_text_told
