use Rattle.mw_prooftext.proofs.Closing.{closing_apart, closing_near}
use Rattle.mw_prooftext.proofs.lines.closing.Goals as goal

pub returns-then-last-eq96 : goal.returns-then-last-eq96
returns-then-last-eq96 c = closing_apart c.args.form.now c.in-len1-up.len_at_least c.if-last-eq96.true

pub returns-else-last-eq96 : goal.returns-else-last-eq96
returns-else-last-eq96 c = closing_near c.args.form.now c.in-len1-up.len_at_least c.if-last-eq96.false
