use Rattle.std.proofs.Common.{◌∙◌, ap, refl, sym}
use Rattle.std.proofs.lemmas.Bool.{both_ways}
use Rattle.mw_term.specs.Shapes.{viewed}
use Rattle.mw_build.proofs.Sides.{not_variable}
use Rattle.mw_build.proofs.statements.is_variable.Goals as goal

pub returns-in-Var : goal.returns-in-Var
returns-in-Var c = (λ h. (_, c.view.ensures ∙ ap viewed c.in-Var.is), λ h. refl)

pub returns-in_default : goal.returns-in_default
returns-in_default c = (λ h. absurd (both_ways _ refl h), λ h. absurd (not_variable c.view.result c.in_default.not-Var h.0 (sym c.view.ensures ∙ h.1)))
