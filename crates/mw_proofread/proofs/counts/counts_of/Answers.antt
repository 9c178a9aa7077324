use Rattle.std.proofs.Common.{◌∙◌, map, length, Some, option_map, ap}
use Rattle.mw_logic.specs.Module.{Statement}
use Rattle.mw_deduction.specs.Replay.{all_sides}
use Rattle.mw_term.specs.Statements.{fragment_of}
use Rattle.mw_proofread.proofs.counts.counts_of.Goals as goal

pub returns-in-Some-clause-values : goal.returns-in-Some-clause-values
returns-in-Some-clause-values c = λ k e.
    ap (λ z. Some (length z)) c.as_slice.ensures ∙ ap (λ (s : Statement). Some (length s.variables)) c.statement.view_is
    ∙ ap (option_map (λ (s : Statement). length s.variables)) (c.in-Some.ensures k e)

pub returns-in-Some-clause-groups : goal.returns-in-Some-clause-groups
returns-in-Some-clause-groups c = λ k e.
    ap Some (c.sides.ensures ∙ ap (λ z. length (all_sides (map fragment_of z))) c.as_slice-in-Some.ensures) ∙ ap (λ (s : Statement). Some (length (all_sides s.fragments))) c.statement.view_is
    ∙ ap (option_map (λ (s : Statement). length (all_sides s.fragments))) (c.in-Some.ensures k e)

pub returns-in-None-clause-values : goal.returns-in-None-clause-values
returns-in-None-clause-values c = λ k e. ap (option_map (λ (s : Statement). length s.variables)) (c.in-None.ensures k e)

pub returns-in-None-clause-groups : goal.returns-in-None-clause-groups
returns-in-None-clause-groups c = λ k e. ap (option_map (λ (s : Statement). length (all_sides s.fragments))) (c.in-None.ensures k e)
