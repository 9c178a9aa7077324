-- Where items that are checked lead, and which answers exclude one another.
use Rattle.std.specs.Prelude.{◌≡◌, ◌≢◌, ◌≤◌, ℕ}
use Rattle.mw_logic.specs.Term.{RawTerm}
use Rattle.mw_logic.specs.Accepted.{IsAccepted}
use Rattle.mw_logic.specs.Parts.{nested, IsAdmitted}
use Rattle.mw_logic.specs.NormalForm.{normal_form}
use Rattle.mw_logic.specs.Module.{Module, Row}
use Rattle.mw_logic.specs.Judgements.{IsNormal}
use Rattle.mw_logic.specs.Ends.{Confluent}
use Rattle.mw_logic.specs.WellFormed.{IsWellFormed}
use Rattle.mw_logic.specs.Confluence.{IsTame}
use Rattle.mw_deduction.specs.Runs.{Done, Dones}
use Rattle.mw_items.specs.Items.{Item, Items}
use Rattle.mw_verdict.specs.Checks.{IsFormOf, Checks, ChecksOne}
use Rattle.mw_verdict.specs.Leads.{ItemsLead}
use Rattle.mw_verdict.specs.Verdicts.{Cause, no_condition, stopped, past_limit, Refuses, IsYes, IsNo}

-- Of one part rows make one term, whichever clean form of it they replace.
abbrev pub HasOneRow : Module → Type 0
HasOneRow M =
    (n : ℕ) (w v u x y : RawTerm) → IsFormOf M.signature w v → IsFormOf M.signature w u → Row M.signature (IsNormal M n) v x → Row M.signature (IsNormal M n) u y
    → normal_form M.signature x ≡ normal_form M.signature y

-- Items that are checked lead to their last term, and to no other.
abbrev pub CheckedLead : Type 0
CheckedLead =
    (M : Module) → IsAccepted M.signature → (n : ℕ) (items : Items) (t u : RawTerm) (r c : ℕ) (ds : Dones) → Checks M n items t u r c ds
    → ItemsLead M items t u × (HasOneRow M → (v : RawTerm) → ItemsLead M items t v → u ≡ v)

-- in rank n the item passes all tests at t
pub record IsChecked (M : Module) (n : ℕ) (i : Item) (t : RawTerm) : Type 0 where
  pub next : RawTerm
  pub rules : ℕ
  pub count : ℕ
  pub done : Done
  pub checks : ChecksOne M n i t next rules count done
  pub admitted : IsAdmitted M.signature (nested M.signature next)

-- the cause is neither a condition nor a stop
abbrev pub IsCertain : Cause → Type 0
IsCertain c = (c ≢ no_condition) × (c ≢ stopped)

-- and it is told before conditions are tested
abbrev pub IsEarly : Cause → Type 0
IsEarly c = IsCertain c × (c ≢ past_limit)

-- An item is at fault for one cause of these alone.
abbrev pub OneCauseOf : (Cause → Type 0) → Module → ℕ → ℕ → Type 0
OneCauseOf P M most n = (i : Item) (t : RawTerm) (c d : Cause) → P c → P d → Refuses M most n i t c → Refuses M most n i t d → c ≡ d

-- nor is it checked
abbrev pub NoneChecked : (Cause → Type 0) → Module → ℕ → ℕ → Type 0
NoneChecked P M most n = (i : Item) (t : RawTerm) (c : Cause) → P c → Refuses M most n i t c → ¬ IsChecked M n i t

-- So the answers no that tell one of these have one number and one cause, and yes isn't one.
abbrev pub OneAnswerOf : (Cause → Type 0) → Module → ℕ → Type 0
OneAnswerOf P M most =
    (from to : RawTerm) (items : Items) (j : ℕ) (c : Cause) → P c → IsNo M most from to items j c
    → ((k : ℕ) (d : Cause) → P d → IsNo M most from to items k d → (j ≡ k) × (c ≡ d)) × ((count : ℕ) → ¬ IsYes M most from to items count)

-- A missing statement or row, an ill-sorted value and a missing part exclude each other cause.
abbrev pub EarlyExclude : Type 0
EarlyExclude = (M : Module) (most n : ℕ) (i : Item) (t : RawTerm) (c d : Cause) → IsEarly c → Refuses M most n i t c → Refuses M most n i t d → c ≡ d

-- These, the limits and another end are excluded by what is checked, and exclude one another.
abbrev pub CertainExclude : Type 0
CertainExclude = (M : Module) → HasOneRow M → (most : ℕ) → ((n : ℕ) → OneCauseOf IsCertain M most n × NoneChecked IsCertain M most n) × OneAnswerOf IsCertain M most

-- In a confluent module so are conditions: all causes but a stop.
abbrev pub ConfluentExclude : Type 0
ConfluentExclude =
    (M : Module) → IsWellFormed M → IsTame M → Confluent M → HasOneRow M → (most : ℕ)
    → ((n : ℕ) → n ≤ 63 → OneCauseOf (λ c. c ≢ stopped) M most n × NoneChecked (λ c. c ≢ stopped) M most n) × OneAnswerOf (λ c. c ≢ stopped) M most
