use Rattle.std.proofs.Common.{◌∙◌, ap, sym}
use Rattle.std.specs.Ordering.{is_eq}
use Rattle.std.proofs.lemmas.Cmp.{tied_itself}
use Rattle.mw_logic.specs.TermOrder.{compare_terms}
use Rattle.mw_logic.proofs.OrderLaws.{compare_total, compare_terms-equal, is_eq-true}
use Rattle.mw_term.proofs.order.same.Goals as goal

pub returns : goal.returns
returns c = (
  λ h. compare_terms-equal c.args.a.now c.args.b.now (sym c.compare.ensures ∙ is_eq-true c.compare.result (sym c.is_eq.ensures ∙ h)),
  λ e. c.is_eq.ensures ∙ ap is_eq (c.compare.ensures ∙ ap (λ t. compare_terms t c.args.b.now) e ∙ tied_itself compare_total c.args.b.now),
)
