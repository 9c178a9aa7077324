use Rattle.std.proofs.Common.{◌≡◌, List}
use Rattle.mw_logic.specs.Judgements.{admitted_judgements}
use Rattle.mw_deduction.specs.Tops.{IsNormalTerm}
use Rattle.mw_index.specs.Choices.{Tried}
use Rattle.mw_reduce.specs.Turns.{AreFailed}
use Rattle.mw_redexes.specs.Redexes.{AreAsked}
use Rattle.mw_rule.proofs.rewriting.look.Given as goal

-- what was answered has conditions that fail
abbrev pub invariant-loop-rounds : goal.invariant-loop-rounds
invariant-loop-rounds l =
    (l.machine ≡ l.fn.machine)
    × (IsNormalTerm l.context (admitted_judgements l.context 63).Fails l.term → (tried : List Tried) × (AreFailed l.context 63 tried) × (AreAsked l.context l.rules l.spots.items tried l.redexes))

abbrev pub decreases-loop-rounds : goal.decreases-loop-rounds
decreases-loop-rounds l = l.rounds
