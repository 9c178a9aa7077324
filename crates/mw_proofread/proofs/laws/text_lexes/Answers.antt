use Rattle.mw_proofread.proofs.TextLexed.{text_lexed}
use Rattle.mw_proofread.proofs.laws.text_lexes.Goals as goal

pub returns : goal.returns
returns c = text_lexed
