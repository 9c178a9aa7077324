use Rattle.mw_proofread.specs.TokenTexts.{token_texts}
use Rattle.mw_proofread.specs.Parts.{NoValues, NoWith}
use Rattle.mw_proofread.proofs.Causes.{on_outside, passed}
use Rattle.mw_proofread.proofs.LineParts.{no_values}
use Rattle.mw_proofread.proofs.values.with.Goals as goal

pub returns-in_err-found-clause-outside : goal.returns-in_err-found-clause-outside
returns-in_err-found-clause-outside c =
    let sig = c.args.reader.now.ctx.now.signature in
    passed _ _ c.in_err-found.field-0.0 c.from_residual.ensures.1
    (on_outside (NoValues sig (token_texts c.in-Some.behind.now)) (NoWith sig (token_texts c.args.tokens.now)) c.in_err-found.field-0.0 (no_values sig _ _ c.in-Some.ensures) c.in_err-found.ensures.outside)
