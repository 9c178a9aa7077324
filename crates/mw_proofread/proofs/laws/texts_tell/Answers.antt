use Rattle.mw_proofread.proofs.Outside.{text_tells}
use Rattle.mw_proofread.proofs.laws.texts_tell.Goals as goal

pub returns : goal.returns
returns c = text_tells
