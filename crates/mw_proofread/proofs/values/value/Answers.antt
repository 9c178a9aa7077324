use Rattle.mw_proofread.specs.TokenTexts.{token_texts}
use Rattle.mw_proofread.specs.Parts.{NoForm, NoValue}
use Rattle.mw_proofread.proofs.Causes.{on_outside, passed}
use Rattle.mw_proofread.proofs.LineParts.{value_not}
use Rattle.mw_proofread.proofs.values.value.Goals as goal

pub returns-in_err-term-clause-outside : goal.returns-in_err-term-clause-outside
returns-in_err-term-clause-outside c =
    let sig = c.args.reader.now.ctx.now.signature in
    passed _ _ c.in_err-term.field-0.0 c.from_residual.ensures.1
    (on_outside (NoForm sig (token_texts c.divided.result.0.now)) (NoValue sig (token_texts c.args.tokens.now)) c.in_err-term.field-0.0
    (value_not sig _ _ _ c.divided.ensures.is c.divided.ensures.low c.divided.ensures.high) c.in_err-term.ensures.outside)
