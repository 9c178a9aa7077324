-- What a claim of the choice that waits takes out of a pool.
use Rattle.std.specs.Prelude.{◌≡◌, ◌≢◌, ◌⊎◌, ◌≤◌, ℕ, List, [], ◌∷◌, Option, Some, None, length, true}
use Rattle.std.specs.List.{zip}
use Rattle.mw_logic.specs.Term.{RawTerm}
use Rattle.mw_logic.specs.Signature.{Signature}
use Rattle.mw_logic.specs.Substitution.{Substitution}
use Rattle.mw_logic.specs.Module.{Module}
use Rattle.mw_canon.specs.Canonical.{IsAdmittedTerm, meant}
use Rattle.mw_redex.specs.Paths.{at_path}
use Rattle.mw_redex.specs.Replaced.{IsOpenWay}
use Rattle.mw_trail.specs.Tracks.{variables_of}
use Rattle.mw_index.specs.Choices.{tried_of}
use Rattle.mw_index.specs.declared.choices.Choice.{Choice}
use Rattle.mw_multiset.specs.Together.{parts, IsShallow}
use Rattle.mw_world.specs.World.{Claim, Try, World}
use Rattle.mw_redexes.specs.Redexes.{IsRedexAt}
use Rattle.mw_redexes.specs.declared.redexes.Found.{Found}
use Rattle.mw_survey.specs.Surveys.{IsPast, IsPassed}
use Rattle.mw_survey.specs.declared.survey.Survey.{Survey}
use Rattle.mw_survey.specs.declared.taking.Taken.{Taken}

-- the values of a choice by the names of its statement's variables
abbrev pub named_values : Module → Choice → Substitution
named_values M c = zip (variables_of M c.by.now.number) c.values.items

-- the same rule and values, with these numbers of arguments
pub record IsAgain (take : Option (List ℕ)) (c d : Choice) : Type 0 where
  pub by : d.by.now ≡ c.by.now
  pub values : d.values.items ≡ c.values.items
  pub takes : d.take ≡ take

-- the part is w, and the rule applies to the whole of it
pub record IsAtWhole (w : RawTerm) (c : Choice) (t : Taken) : Type 0 where
  pub part : t.part ≡ w
  pub path : t.path ≡ []
  pub again : IsAgain None c t.choice

-- the part is x, and the rule applies at u, to which an open way leads
pub record IsAtElement (sig : Signature) (x u : RawTerm) (c : Choice) (t : Taken) : Type 0 where
  pub part : t.part ≡ x
  pub there : at_path x t.path ≡ Some u
  pub open_way : IsOpenWay sig true t.path x
  pub again : IsAgain c.take c t.choice

-- The rule and the values are those of the choice that waits. The part is an element, or the elements that the choice takes of the whole, as a term; the rule
-- applies at the place in it. Where it is tried, or not all elements of the part are free, what waits may be passed over.
pub record IsTakenBy (M : Module) (f : ℕ) (s : Survey) (t : Taken) : Type 0 where
  pub found : Found
  pub waits : s.found ≡ Some found
  pub by : t.choice.by.now ≡ found.choice.by.now
  pub values : t.choice.values.items ≡ found.choice.values.items
  pub admitted : IsAdmittedTerm M.signature t.part
  pub shallow : IsShallow M.signature f t.part
  pub filled : parts M.signature f t.part ≢ []
  pub redex : IsRedexAt M t.part t.path t.choice
  pub named : length t.choice.values.items ≤ length (variables_of M t.choice.by.now.number)
  pub alone : ((t.path ≡ []) × (t.choice.take ≡ None)) ⊎ (parts M.signature f t.part ≡ t.part ∷ [])
  pub passed : (tries : List Try) (free : List RawTerm) → IsPast M.signature f tries free t.part t.choice.by.now.number (meant M.signature (named_values M t.choice))
      → IsPassed M f tries free s.all.items s.at (tried_of found.choice)

-- the claim is the pool's, and takes this
pub record IsClaimOf (w : World) (t : Taken) (c : Claim) : Type 0 where
  pub operator : c.operator ≡ w.operator
  pub side : c.side ≡ w.side
  pub part : c.part ≡ t.part
  pub path : c.path ≡ t.path
  pub take : c.take ≡ t.choice.take
  pub rule : c.rule ≡ t.choice.by.now.number
  pub values : c.subst ≡ named_values w.over t.choice
