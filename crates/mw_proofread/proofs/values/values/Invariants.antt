use Rattle.std.proofs.Common.{length}
use Rattle.mw_proofread.specs.TokenTexts.{token_texts}
use Rattle.mw_proofread.proofs.LineParts.{AreValuesTo}
use Rattle.mw_proofread.proofs.values.values.Given as goal

abbrev pub invariant-loop-inner : goal.invariant-loop-inner
invariant-loop-inner l = AreValuesTo l.reader.ctx.now.signature (token_texts l.tokens) l.found.items (token_texts l.rest)

abbrev pub decreases-loop-inner : goal.decreases-loop-inner
decreases-loop-inner l = length (token_texts l.rest)
