use Rattle.std.proofs.Common.{◌∙◌, sym, arith}
use Rattle.mw_proofread.proofs.Slices.{parts_text, low_more}
use Rattle.mw_proofread.proofs.values.divided.Goals as goal

pub returns-then-not-is_low-clause-is : goal.returns-then-not-is_low-clause-is
returns-then-not-is_low-clause-is c = let h = c.loop-i-test.true in parts_text c.args.tokens.now c.loop-i.i (omega (arith, h))

pub loop-i-preserved : goal.loop-i-preserved
loop-i-preserved c = low_more c.args.tokens.now c.loop-i.i c.index-tokens-i.result c.loop-i-test.true c.index-tokens-i.is c.loop-i.invariant (sym c.is_low.ensures ∙ c.if-not-is_low.false)
