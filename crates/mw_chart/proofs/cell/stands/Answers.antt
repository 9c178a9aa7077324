use Rattle.std.proofs.Common.{◌∙◌, ap, arith}
use Rattle.std.proofs.lemmas.Bool.{eqb-true, eq-eqb, ltb-true}
use Rattle.mw_chart.specs.declared.terminal.Terminal.{Terminal}
use Rattle.mw_chart.proofs.Lists.{get_is, get_same, get_below}
use Rattle.mw_chart.proofs.cell.stands.Goals as goal

pub returns-then-at-text : goal.returns-then-at-text
returns-then-at-text c = (
  λ e. (_, get_is c.args.text.now c.args.at c.index-text-at.result c.if-at-text.true, eqb-true _ _ e),
  λ (w, got, same). eq-eqb _ _ (ap (λ (x : Terminal). x.token) (get_same c.args.text.now c.args.at w c.index-text-at.result got) ∙ same),
)

pub returns-else-at-text : goal.returns-else-at-text
returns-else-at-text c = (
  λ e. let h = c.if-at-text.false in let l = ltb-true _ _ e in absurd (omega (arith, h, l)),
  λ (w, got, same). let b = get_below c.args.text.now c.args.at w got in let h = c.if-at-text.false in absurd (omega (arith, h, b)),
)
