use Rattle.mw_text.proofs.Spellings as law
use Rattle.mw_text.proofs.items.spellings_read.Goals as goal

-- src/items.rt:76:1
pub returns : goal.returns
returns c = law.spellings_read
