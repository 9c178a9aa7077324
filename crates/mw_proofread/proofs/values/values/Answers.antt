use Rattle.mw_proofread.specs.TokenTexts.{token_texts}
use Rattle.mw_proofread.specs.Parts.{NoValue, NoValues}
use Rattle.mw_proofread.proofs.Causes.{on_outside, passed}
use Rattle.mw_proofread.proofs.LineParts.{no_value, no_bracket, values_more}
use Rattle.mw_proofread.proofs.values.values.Goals as goal

pub returns-in_err-term-clause-outside : goal.returns-in_err-term-clause-outside
returns-in_err-term-clause-outside c =
    let sig = c.args.reader.now.ctx.now.signature in
    passed _ _ c.in_err-term.field-0.0 c.from_residual.ensures.1
    (on_outside (NoValue sig (token_texts c.in-Some.inner.now)) (NoValues sig (token_texts c.args.tokens.now)) c.in_err-term.field-0.0
    (no_value sig _ _ _ _ c.loop-inner.invariant c.in-Some.ensures) c.in_err-term.ensures.outside)

pub returns-in_default-after-clause-outside : goal.returns-in_default-after-clause-outside
returns-in_default-after-clause-outside c = no_bracket c.args.reader.now.ctx.now.signature _ _ _ _ c.loop-inner.invariant c.in-Some.ensures c.in_ok-term.term _ c.in_ok-term.ensures.ok c.in_default-after.ensures

pub loop-inner-preserved : goal.loop-inner-preserved
loop-inner-preserved c =
    values_more c.args.reader.now.ctx.now.signature _ _ _ _ c.loop-inner.invariant c.in-Some.ensures c.in_ok-term.term _ c.in_ok-term.ensures.ok _ _ c.in-Some-after.ensures c.in_ok-push.ensures.items
