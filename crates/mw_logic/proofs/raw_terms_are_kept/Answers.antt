use Rattle.mw_logic.proofs.RawLed.{Proves-raw}
use Rattle.mw_logic.proofs.raw_terms_are_kept.Goals as goal

pub returns : goal.returns
returns c = Proves-raw
