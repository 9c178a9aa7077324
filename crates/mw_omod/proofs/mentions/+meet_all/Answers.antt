use Rattle.std.proofs.Common.{◌∙◌, ℕ, List, sym, ap}
use Rattle.mw_term.specs.Raws.{raw_term}
use Rattle.mw_position.specs.Variables.{met}
use Rattle.mw_text.specs.Mentions.{with_variable}
use Rattle.mw_omod.proofs.Meeting.{with_met}
use Rattle.mw_omod.proofs.mentions.+meet_all.Goals as goal

pub returns-in_ok-meet-in-Var : goal.returns-in_ok-meet-in-Var
returns-in_ok-meet-in-Var t c =
    let xs = c.args.variables.now in
    c.in_ok-meet-in-Var.ensures.variables
    ∙ ap (λ (n : List ℕ). with_variable xs (record { name = n; sort = c.variable.inside.sort })) c.as_slice.ensures
    ∙ ap (with_variable xs) c.variable.view_is ∙ with_met xs c.in-Var.variable ∙ ap (λ u. met xs (raw_term u)) (sym c.in-Var.is)
