use Rattle.std.proofs.Common.{◌∙◌, ap}
use Rattle.std.proofs.lemmas.List.{take_all}
use Rattle.mw_logic.specs.Term.{variable}
use Rattle.mw_position.specs.Variables.{met}
use Rattle.mw_pattern.proofs.Tables.{met_next}
use Rattle.mw_pattern.proofs.places.Places.new.Goals as goal

pub loop-x-preserved : goal.loop-x-preserved
loop-x-preserved c =
    c.in_ok-meet.ensures.ok ∙ ap (λ xs. met xs (variable c.x-item.result)) c.loop-x.invariant ∙ met_next c.args.variables.now c.loop-x.x-index _ c.loop-x-test.true c.x-item.is c.requires

pub returns : goal.returns
returns c = c.loop-x.invariant ∙ take_all c.loop-x.x-index c.args.variables.now c.loop-x-test.false
