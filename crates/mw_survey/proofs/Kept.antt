-- A claim keeps a survey, and one that is used up leaves nothing to claim.
use Rattle.std.specs.Prelude.{◌<◌, ℕ, List, ◌++◌, length, IsPermutation}
use Rattle.mw_logic.specs.Term.{RawTerm}
use Rattle.mw_logic.specs.Signature.{Member}
use Rattle.mw_logic.specs.Module.{Module}
use Rattle.mw_least.specs.Workable.{IsWorkable}
use Rattle.mw_index.specs.declared.index.Rule.{Rule}
use Rattle.mw_multiset.specs.Together.{IsOfMultisets}
use Rattle.mw_world.specs.World.{Try}
use Rattle.mw_survey.specs.Surveys.{IsExhausted}
use Rattle.mw_survey.specs.Asked.{IsSurveyOf}
use Rattle.mw_survey.specs.declared.survey.Survey.{Survey}
use Rattle.mw_survey.proofs.Covered.{covers_kept}
use Rattle.mw_survey.proofs.Exhausted.{exhausted}

-- elements go, and tries come
pub survey_kept : (M : Module) (f : ℕ) (rules : List Rule) (tries more_tries : List Try) (free taken less : List RawTerm) → ((t : Try) → Member t tries → Member t more_tries) → IsPermutation free (taken ++ less)
    → (s : Survey) → IsSurveyOf M f rules tries free s → IsSurveyOf M f rules more_tries less s
survey_kept M f rules tries more_tries free taken less kept goes s (passed, h) = (
  passed,
  record {
    covers = covers_kept M f tries more_tries free taken less kept goes s.all.items s.at passed h.covers;
    subject = h.subject;
    ways = h.ways;
    last = h.last;
    asked = h.asked;
  },
)

-- one that is used up leaves nothing to claim
pub survey_exhausted : (M : Module) → IsWorkable M → (f : ℕ) → IsOfMultisets M f → (rules : List Rule) (tries : List Try) (free : List RawTerm) (s : Survey)
    → IsSurveyOf M f rules tries free s → length s.all.items < s.at → IsExhausted M f tries free
survey_exhausted M work f op rules tries free s (passed, h) low = exhausted M work f op.assoc op.comm op.free tries free s.all.items s.at passed h.covers low
