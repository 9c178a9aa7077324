use Rattle.std.proofs.Common.{◌≡◌, ℕ, List}
use Rattle.mw_logic.specs.Term.{RawTerm}
use Rattle.mw_world.specs.World.{Try}
use Rattle.mw_multiset.specs.Together.{IsOfMultisets}
use Rattle.mw_survey.specs.Asked.{IsSurveyOf}
use Rattle.mw_survey.proofs.survey.Survey.look.Given as goal

abbrev pub invariant-loop-rounds : goal.invariant-loop-rounds
invariant-loop-rounds l =
    ((f : ℕ) (tries : List Try) (free : List RawTerm) → IsOfMultisets l.context f → IsSurveyOf l.context f l.rules tries free l.fn.self → IsSurveyOf l.context f l.rules tries free l.self)
    × (l.self.came ≡ l.fn.self.came)

abbrev pub decreases-loop-rounds : goal.decreases-loop-rounds
decreases-loop-rounds l = l.rounds
