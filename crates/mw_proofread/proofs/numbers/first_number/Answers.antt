use Rattle.std.proofs.Common.{◌∙◌, ◌∷◌, ap, sym, subst}
use Rattle.mw_proofread.specs.TokenTexts.{token_texts}
use Rattle.mw_proofread.specs.Parts.{NoNumber}
use Rattle.mw_proofread.proofs.numbers.first_number.Goals as goal

pub returns-in_err-token : goal.returns-in_err-token
returns-in_err-token c = rw c.from_residual.ensures (subst NoNumber (sym c.in_err-token.ensures) tt)

pub returns-in_err-number : goal.returns-in_err-number
returns-in_err-number c = rw c.from_residual-in_err-number.ensures (subst NoNumber (sym c.in_ok-token.ensures) (λ n e. c.in_err-number.ensures n (c.as_slice.ensures ∙ e)))

pub returns : goal.returns
returns c = let (n, e, v) = c.in_ok-number.ensures in (n, c.in_ok-token.ensures ∙ ap (λ z. z ∷ token_texts c.in_ok-token.behind.now) (sym c.as_slice.ensures ∙ e), v)
