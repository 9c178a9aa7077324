use Rattle.std.proofs.Common.{take}
use Rattle.mw_proofread.specs.TokenTexts.{token_texts}
use Rattle.mw_proofread.specs.Parts.{AreLow}
use Rattle.mw_proofread.proofs.values.divided.Given as goal

abbrev pub invariant-loop-i : goal.invariant-loop-i
invariant-loop-i l = AreLow (token_texts (take l.i l.tokens))
