use Rattle.mw_proofread.proofs.Tails.{not_one, title_is}
use Rattle.mw_proofread.proofs.reading.behind_title.Goals as goal

pub returns-in_err-behind-2 : goal.returns-in_err-behind-2
returns-in_err-behind-2 c = rw c.from_residual-in_err-behind-2.ensures (not_one _ _ c.in_ok-behind.ensures c.in_err-behind-2.ensures)

pub returns : goal.returns
returns c = (c.in_ok-behind-4.field-0-0.now.text, title_is _ _ _ _ _ _ c.in_ok-behind.ensures c.in_ok-behind-2.ensures c.in_ok-behind-3.ensures c.in_ok-behind-4.ensures)
