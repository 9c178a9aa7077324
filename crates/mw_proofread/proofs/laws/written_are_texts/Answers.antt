use Rattle.mw_proofread.proofs.KeptTexts.{written_are_texts}
use Rattle.mw_proofread.proofs.laws.written_are_texts.Goals as goal

pub returns : goal.returns
returns c = written_are_texts
