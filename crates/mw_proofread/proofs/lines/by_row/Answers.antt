use Rattle.std.specs.Prelude.{◌∷◌, codes}
use Rattle.mw_logic.specs.Module.{Module}
use Rattle.mw_proofread.specs.TokenTexts.{token_texts}
use Rattle.mw_proofread.specs.Parts.{NoPlace, NoLine}
use Rattle.mw_proofread.proofs.Causes.{on_outside, passed}
use Rattle.mw_proofread.proofs.LineParts.{row_is, row_not}
use Rattle.mw_proofread.proofs.lines.by_row.Goals as goal

pub returns-in_err-place-clause-outside : goal.returns-in_err-place-clause-outside
returns-in_err-place-clause-outside c =
    passed _ _ c.in_err-place.field-0.0 c.from_residual.ensures.1
    (on_outside (NoPlace (token_texts c.args.tokens.now)) ((M : Module) → NoLine M (codes "step" ∷ codes "built" ∷ token_texts c.args.tokens.now)) c.in_err-place.field-0.0 (λ n M. row_not M _ n) c.in_err-place.ensures.outside)

pub returns-clause-ok : goal.returns-clause-ok
returns-clause-ok c = λ M. row_is M _ _ c.in_ok-place.place _ _ c.in_ok-place.ensures.ok c.in_ok-push.ensures.items
