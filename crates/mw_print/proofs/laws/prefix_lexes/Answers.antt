use Rattle.mw_print.proofs.PrefixLexed.{prefix_lexed}
use Rattle.mw_print.proofs.Before.{prefix_lexed_before}
use Rattle.mw_print.proofs.laws.prefix_lexes.Goals as goal

pub returns-clause-alone : goal.returns-clause-alone
returns-clause-alone c = prefix_lexed

pub returns-clause-before : goal.returns-clause-before
returns-clause-before c = prefix_lexed_before
