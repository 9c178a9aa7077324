-- What comes of items that stand as entries one after another.
use Rattle.std.specs.Prelude.{◌≡◌, ◌≤◌, ℕ, List, [], ◌∷◌, length, Some, None, IsTrue, ⊤}
use Rattle.mw_logic.specs.Term.{RawTerm}
use Rattle.mw_logic.specs.Signature.{Signature}
use Rattle.mw_logic.specs.Module.{Module, Statement, IsStatement}
use Rattle.mw_canon.specs.Canonical.{IsAdmittedTerm}
use Rattle.mw_prooftext.specs.Grounds.{spot_of}
use Rattle.mw_items.specs.Items.{Item, step, Groups}
use Rattle.mw_items.specs.declared.Entry.{Entry}
use Rattle.mw_items.specs.declared.Step.{Step as StepEntry}
use Rattle.mw_items.specs.declared.Entry.TheVariants.{Step, Built, Open, Close}
use Rattle.mw_check.specs.declared.answer.Answer.{Answer}
use Rattle.mw_check.specs.declared.answer.Answer.TheVariants as answer
use Rattle.mw_check.specs.Answers.{AreAdmittedTerms, IsAnswer}

-- the values of steps are canonical terms that are admitted
abbrev pub HaveAdmittedValues : Signature → List Entry → Type 0
HaveAdmittedValues sig [] = ⊤
HaveAdmittedValues sig (Step s ∷ es) = AreAdmittedTerms sig s.values × HaveAdmittedValues sig es
HaveAdmittedValues sig (Built p ∷ es) = HaveAdmittedValues sig es
HaveAdmittedValues sig (Open ∷ es) = HaveAdmittedValues sig es
HaveAdmittedValues sig (Close ∷ es) = HaveAdmittedValues sig es

-- no group begins there, so the item before is over
abbrev pub OpensNoGroup : List Entry → Type 0
OpensNoGroup [] = ⊤
OpensNoGroup (Step s ∷ es) = ⊤
OpensNoGroup (Built p ∷ es) = ⊤
OpensNoGroup (Open ∷ es) = ⊥
OpensNoGroup (Close ∷ es) = ⊤

-- What comes of the item; and where it isn't refused, what is left are the entries behind it.
abbrev pub IsAnswerBefore : Module → ℕ → ℕ → Item → List Entry → RawTerm → Answer → List Entry → Type 0
IsAnswerBefore M most n i behind t (answer.Refused c) left = IsAnswer M most n i t (answer.Refused c)
IsAnswerBefore M most n i behind t (answer.Stopped next) left = IsAnswer M most n i t (answer.Stopped next) × (left ≡ behind)
IsAnswerBefore M most n i behind t (answer.Passed u count) left = IsAnswer M most n i t (answer.Passed u count) × (left ≡ behind)

-- an item begins there
abbrev pub BeginsItem : List Entry → Type 0
BeginsItem [] = ⊥
BeginsItem (Step s ∷ es) = ⊤
BeginsItem (Built p ∷ es) = ⊤
BeginsItem (Open ∷ es) = ⊥
BeginsItem (Close ∷ es) = ⊥

-- items are over there: a group ends, or there is nothing more
abbrev pub EndsItems : List Entry → Type 0
EndsItems [] = ⊤
EndsItems (Step s ∷ es) = ⊥
EndsItems (Built p ∷ es) = ⊥
EndsItems (Open ∷ es) = ⊥
EndsItems (Close ∷ es) = ⊤

-- the statement of this number is an executable rule
abbrev pub IsRuleAt : Module → ℕ → Type 0
IsRuleAt M k = (st : Statement) × IsStatement M k st × IsTrue st.rule

-- a step begins there that names one, whatever it says of `owise`
abbrev pub NamesRule : Module → List Entry → Type 0
NamesRule M [] = ⊥
NamesRule M (Step s ∷ es) = IsRuleAt M s.statement
NamesRule M (Built p ∷ es) = ⊥
NamesRule M (Open ∷ es) = ⊥
NamesRule M (Close ∷ es) = ⊥

-- the item that a step is, with the groups of its condition
abbrev pub item_of : StepEntry → Groups → Item
item_of s gs = step s.owise s.statement (spot_of s.place) s.values gs

-- The next term is admitted, where it is told.
abbrev pub HasAdmittedNext : Signature → Answer → Type 0
HasAdmittedNext sig (answer.Refused c) = ⊤
HasAdmittedNext sig (answer.Stopped None) = ⊤
HasAdmittedNext sig (answer.Stopped (Some u)) = IsAdmittedTerm sig u
HasAdmittedNext sig (answer.Passed u count) = IsAdmittedTerm sig u

-- these are left of the entries
pub record AreLeft (sig : Signature) (entries left : List Entry) : Type 0 where
  pub values : HaveAdmittedValues sig left
  pub within : length left ≤ length entries
