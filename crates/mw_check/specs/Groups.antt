-- What comes of chains of items, of the groups of sides, and of conditions. So many replacements are counted, or none where a test of normality stopped.
use Rattle.std.specs.Prelude.{◌≡◌, ◌⊎◌, ◌+◌, ◌++◌, ℕ, zero, suc, List, [], ◌∷◌, Option, Some, None, IsTrue, ⊤}
use Rattle.mw_logic.specs.Term.{RawTerm}
use Rattle.mw_logic.specs.Signature.{Signature, IsRawTerm}
use Rattle.mw_logic.specs.Substitution.{Substitution, instance, binds, IsSubstitution}
use Rattle.mw_logic.specs.Parts.{nested, IsAdmitted}
use Rattle.mw_logic.specs.NormalForm.{normal_form}
use Rattle.mw_logic.specs.Module.{Fragment, Module, binds_fragments}
use Rattle.mw_logic.specs.Judgements.{IsNormal}
use Rattle.mw_logic.specs.Ends.{Reason, StopsAtOnce}
use Rattle.mw_logic.specs.Confluence.{IsReducible}
use Rattle.mw_least.specs.Conditions.{AreRawFragments}
use Rattle.mw_canon.specs.Canonical.{IsAdmittedTerm, HasAdmittedValues, meant}
use Rattle.mw_deduction.specs.Runs.{Dones, Runs}
use Rattle.mw_deduction.specs.Replay.{all_sides}
use Rattle.mw_proof.specs.Counting.{capped}
use Rattle.mw_items.specs.Items.{Item, Items, Groups, end, group}
use Rattle.mw_items.specs.Entries.{entries_of_groups}
use Rattle.mw_items.specs.declared.Entry.{Entry}
use Rattle.mw_items.specs.declared.Entry.TheVariants.{Step, Built, Open, Close}
use Rattle.mw_verdict.specs.Checks.{Meets, Checks, Evaluated, AreEvaluated, AreMet, Shown}
use Rattle.mw_verdict.specs.Leads.{ItemsLead}
use Rattle.mw_verdict.specs.Verdicts.{Splits, HasGroup, behind, AreLed, IsStopped, Refuses, AtFault, ChainAtFault, StopsIn, stopped}
use Rattle.mw_check.specs.declared.answer.Cause.TheVariants as cause
use Rattle.mw_check.specs.declared.answer.Answer.{Answer}
use Rattle.mw_check.specs.declared.answer.Answer.TheVariants as answer
use Rattle.mw_check.specs.declared.chains.Led.{Led}
use Rattle.mw_check.specs.declared.chains.Led.TheVariants as led
use Rattle.mw_check.specs.declared.chains.Evaluation.{Evaluation}
use Rattle.mw_check.specs.declared.chains.Evaluation.TheVariants as evaluation
use Rattle.mw_check.specs.declared.chains.Ends.{Ends}
use Rattle.mw_check.specs.declared.chains.Ends.TheVariants as ends
use Rattle.mw_check.specs.declared.chains.Showing.{Showing}
use Rattle.mw_check.specs.declared.chains.Showing.TheVariants as showing
use Rattle.mw_check.specs.Answers.{AreAdmittedTerms}
use Rattle.mw_check.specs.Chains.{AreLeft}

-- both counts together, or none
abbrev pub counted_both : Option ℕ → Option ℕ → Option ℕ
counted_both None m = None
counted_both (Some n) None = None
counted_both (Some n) (Some m) = Some (capped (n + m))

-- where items go on behind one that isn't at fault, and what is counted of it
abbrev pub next_of : Answer → Option (RawTerm × Option ℕ)
next_of (answer.Refused c) = None
next_of (answer.Stopped None) = None
next_of (answer.Stopped (Some u)) = Some (u, None)
next_of (answer.Passed u n) = Some (u, Some n)

-- what comes of a step, by what comes of its condition and by the next term; and what is left behind it
abbrev pub answer_of : Showing → Option RawTerm → Answer
answer_of showing.AtFault next = answer.Refused cause.Condition
answer_of (showing.Through None left) next = answer.Stopped next
answer_of (showing.Through (Some k) left) None = answer.Refused cause.Limit
answer_of (showing.Through (Some k) left) (Some u) = answer.Passed u (capped (k + 1))

abbrev pub left_of : Showing → List Entry → List Entry
left_of showing.AtFault entries = entries
left_of (showing.Through count left) entries = left.now

-- what stands behind the end of so many groups and one more, which are open
abbrev pub after_close : ℕ → List Entry → Option (List Entry)
after_close d [] = None
after_close d (Step s ∷ es) = after_close d es
after_close d (Built p ∷ es) = after_close d es
after_close d (Open ∷ es) = after_close (suc d) es
after_close zero (Close ∷ es) = Some es
after_close (suc d) (Close ∷ es) = after_close d es

-- the group that is open there was passed over
abbrev pub IsPassedOver : List Entry → Evaluation → Type 0
IsPassedOver entries evaluation.AtFault = ⊥
IsPassedOver entries (evaluation.Through a count left) = (a ≡ None) × (count ≡ None) × (after_close 0 entries ≡ Some left.now)

-- the ends of both sides, where each has one
abbrev pub both_ends : Option RawTerm → Option RawTerm → Option (List RawTerm)
both_ends None b = None
both_ends (Some a) None = None
both_ends (Some a) (Some b) = Some (a ∷ b ∷ [])

-- values by name that are admitted, and of their variables' sorts
pub record AreValues (sig : Signature) (values : Substitution) : Type 0 where
  pub admitted : HasAdmittedValues sig values
  pub sorted : IsSubstitution sig (meant sig values)

-- a side that is a raw term, all of whose variables are bound
pub record IsReadySide (sig : Signature) (s : Substitution) (l : RawTerm) : Type 0 where
  pub raw : IsRawTerm sig l
  pub bound : IsTrue (binds s l)

-- fragments of such sides
pub record AreReady (sig : Signature) (s : Substitution) (C : List Fragment) : Type 0 where
  pub raw : AreRawFragments sig C
  pub bound : IsTrue (binds_fragments s C)

-- A side's instance as a canonical term, or none where it isn't admitted.
abbrev pub IsStart : Module → RawTerm → Option RawTerm → Type 0
IsStart M l None = (why : Reason) × StopsAtOnce M l why
IsStart M l (Some t) = (t ≡ normal_form M.signature l) × IsRawTerm M.signature l × IsAdmitted M.signature l × IsAdmittedTerm M.signature t

-- the ends meet the fragment, where each side has one
abbrev pub MeetTheirs : Signature → Substitution → Fragment → Option (List RawTerm) → Type 0
MeetTheirs sig s f None = ⊤
MeetTheirs sig s f (Some xs) = Meets sig s f xs

-- What is left of the entries, and the ends, whatever stands in them.
abbrev pub IsLedFrom : Signature → List Entry → Led → Type 0
IsLedFrom sig entries led.AtFault = ⊤
IsLedFrom sig entries (led.To u count left) = IsAdmittedTerm sig u × AreLeft sig entries left.now

abbrev pub IsAdmittedEnd : Signature → Option RawTerm → Type 0
IsAdmittedEnd sig None = ⊤
IsAdmittedEnd sig (Some a) = IsAdmittedTerm sig a

abbrev pub AreAdmittedEnds : Signature → Option (List RawTerm) → Type 0
AreAdmittedEnds sig None = ⊤
AreAdmittedEnds sig (Some xs) = AreAdmittedTerms sig xs

abbrev pub IsEvaluatedFrom : Signature → List Entry → Evaluation → Type 0
IsEvaluatedFrom sig entries evaluation.AtFault = ⊤
IsEvaluatedFrom sig entries (evaluation.Through a count left) = IsAdmittedEnd sig a × AreLeft sig entries left.now

abbrev pub AreEndsFrom : Signature → List Entry → Ends → Type 0
AreEndsFrom sig entries ends.AtFault = ⊤
AreEndsFrom sig entries (ends.Through xs count left) = AreAdmittedEnds sig xs × AreLeft sig entries left.now

abbrev pub IsShownFrom : Signature → List Entry → Showing → Type 0
IsShownFrom sig entries showing.AtFault = ⊤
IsShownFrom sig entries (showing.Through count left) = AreLeft sig entries left.now

module _ (M : Module) (most : ℕ) where
  abbrev sig : Signature
  sig = M.signature

  -- From the canonical t on, a test of rank n stops in one of the items.
  pub record StopsInItem (n : ℕ) (t : RawTerm) (items : Items) : Type 0 where
    pub before : Items
    pub rest : Items
    pub item : Item
    pub at : RawTerm
    pub splits : Splits before item rest items
    pub leads : ItemsLead M before t at
    pub stops : Refuses M most n item at stopped

  -- a test stops in the group of a side whose instance is l: at the side, in an item, or at the end
  pub data GroupStops (n : ℕ) (l : RawTerm) (g : Items) : Type 0 where
    at_side : (why : Reason) → StopsAtOnce M l why → GroupStops n l g
    in_item : StopsInItem n (normal_form M.signature l) g → GroupStops n l g
    at_end : {a : RawTerm} → ItemsLead M g (normal_form M.signature l) a → IsStopped M most n (nested M.signature a) → GroupStops n l g

  -- one of the sides has such a group
  pub record StopsAtOne (n : ℕ) (s : Substitution) (ls : List RawTerm) (gs : Groups) : Type 0 where
    pub side : RawTerm
    pub items : Items
    pub has : HasGroup side items ls gs
    pub stops : GroupStops n (instance s side) items

  -- The items from t to u: they check by equations alone, with so many replacements; or a test stops in one.
  abbrev pub AreCounted : ℕ → RawTerm → Items → RawTerm → Option ℕ → Type 0
  AreCounted n t items u None = StopsInItem n t items
  AreCounted n t items u (Some k) = (c : ℕ) × (ds : Dones) × Checks M n items t u 0 c ds × (k ≡ capped c)

  -- From each side that has the canonical form t, one of them is at fault.
  abbrev pub AreAtFault : ℕ → RawTerm → Items → Type 0
  AreAtFault n t items = (l : RawTerm) → normal_form sig l ≡ t → ChainAtFault M most n l items

  -- What comes of items, behind which these entries stand.
  abbrev pub IsChain : ℕ → RawTerm → Items → List Entry → Led → Type 0
  IsChain n t items rest led.AtFault = AreAtFault n t items
  IsChain n t items rest (led.To u count left) = ItemsLead M items t u × AreCounted n t items u count × (left.now ≡ rest)

  -- What comes of items in the middle of a chain, whose term is v: what comes of the items left comes of all.
  abbrev pub AreCountedSoFar : ℕ → RawTerm → Items → RawTerm → Items → Option ℕ → Type 0
  AreCountedSoFar n t items v is None = StopsInItem n t items
  AreCountedSoFar n t items v is (Some k) = (d : ℕ) × (k ≡ capped d) × ((u : RawTerm) (c : ℕ) (ds : Dones) → Checks M n is v u 0 c ds → (es : Dones) × Checks M n items t u 0 (d + c) es)

  pub record LeadsOn (n : ℕ) (t : RawTerm) (items : Items) (v : RawTerm) (is : Items) (count : Option ℕ) : Type 0 where
    pub faults : AreAtFault n v is → AreAtFault n t items
    pub leads : (u : RawTerm) → ItemsLead M is v u → ItemsLead M items t u
    pub stops : StopsInItem n v is → StopsInItem n t items
    pub counted : AreCountedSoFar n t items v is count

  -- The end of a group, if its side begins, as an admitted one does, and what is counted.
  abbrev pub IsEndOf : ℕ → RawTerm → Items → Option RawTerm → Option ℕ → Type 0
  IsEndOf n l g None None = GroupStops n l g
  IsEndOf n l g None (Some k) = ⊥
  IsEndOf n l g (Some a) None = IsAdmitted sig l × ItemsLead M g (normal_form sig l) a × GroupStops n l g
  IsEndOf n l g (Some a) (Some k) = IsAdmitted sig l × ItemsLead M g (normal_form sig l) a × (c : ℕ) × (ds : Dones) × Evaluated M n l g a c ds × (k ≡ capped c)

  -- What comes of the group of a side whose instance is l.
  abbrev pub IsEvaluation : ℕ → RawTerm → Items → List Entry → Evaluation → Type 0
  IsEvaluation n l g rest evaluation.AtFault = IsAdmitted sig l × ChainAtFault M most n l g
  IsEvaluation n l g rest (evaluation.Through a count left) = IsEndOf n l g a count × (left.now ≡ rest)

  -- the same of the first of these groups
  abbrev pub IsFirstEvaluation : ℕ → RawTerm → Groups → List Entry → Evaluation → Type 0
  IsFirstEvaluation n l end rest e = ⊥
  IsFirstEvaluation n l (group g gs) rest e = IsEvaluation n l g (entries_of_groups gs ++ rest) e

  -- The end of items is tested: it is reducible, or it is normal, or the test stops.
  abbrev pub IsEndCounted : ℕ → RawTerm → Option ℕ → Option ℕ → Type 0
  IsEndCounted n a count None = (count ≡ None) ⊎ IsStopped M most n (nested sig a)
  IsEndCounted n a count (Some k) = (count ≡ Some k) × IsNormal M n (nested sig a)

  abbrev pub IsEnding : ℕ → RawTerm → Option ℕ → List Entry → Evaluation → Type 0
  IsEnding n a count entries evaluation.AtFault = IsReducible M n (nested sig a)
  IsEnding n a count entries (evaluation.Through b k left) = (b ≡ Some a) × (entries ≡ Close ∷ left.now) × IsEndCounted n a count k

  -- The first groups, of these sides, are evaluated.
  pub data AreFirst (n : ℕ) (s : Substitution) : List RawTerm → Groups → List RawTerm → ℕ → Type 0 where
    no_side : {gs : Groups} → AreFirst n s [] gs [] 0
    a_side : {c d : ℕ} {l a : RawTerm} {ls xs : List RawTerm} {g : Items} {gs : Groups} {ds : Dones} → Evaluated M n (instance s l) g a c ds → AreFirst n s ls gs xs d → AreFirst n s (l ∷ ls) (group g gs) (a ∷ xs) (c + d)

  -- The ends of these sides, if each begins, and what is counted.
  abbrev pub AreEndsOf : ℕ → Substitution → List RawTerm → Groups → Option (List RawTerm) → Option ℕ → Type 0
  AreEndsOf n s ls gs None None = StopsAtOne n s ls gs
  AreEndsOf n s ls gs None (Some k) = ⊥
  AreEndsOf n s ls gs (Some xs) None = AreLed M s ls gs xs × StopsAtOne n s ls gs
  AreEndsOf n s ls gs (Some xs) (Some k) = AreLed M s ls gs xs × (d : ℕ) × AreFirst n s ls gs xs d × (k ≡ capped d)

  -- one of the sides is admitted and has a group that is at fault
  pub record FaultAtOne (n : ℕ) (s : Substitution) (ls : List RawTerm) (gs : Groups) : Type 0 where
    pub side : RawTerm
    pub items : Items
    pub has : HasGroup side items ls gs
    pub admitted : IsAdmitted sig (instance s side)
    pub fault : ChainAtFault M most n (instance s side) items

  -- What comes of the groups of these sides, which come first.
  abbrev pub AreEnds : ℕ → Substitution → List RawTerm → Groups → List Entry → Ends → Type 0
  AreEnds n s ls gs rest ends.AtFault = FaultAtOne n s ls gs
  AreEnds n s ls gs rest (ends.Through xs count left) = AreEndsOf n s ls gs xs count × (left.now ≡ entries_of_groups (behind ls gs) ++ rest)

  -- What comes of groups in the middle of those of a condition: what comes of the fragments left, with their groups, comes of all.
  abbrev pub AreShownSoFar : ℕ → Substitution → List Fragment → Groups → List Fragment → Groups → Option ℕ → Type 0
  AreShownSoFar n s C gs D hs None = StopsIn M most (suc n) C s gs
  AreShownSoFar n s C gs D hs (Some k) =
      (d : ℕ) × (k ≡ capped d)
      × ((xs : List RawTerm) (rs : Runs) (c : ℕ) → AreEvaluated M n s (all_sides D) hs xs rs c → AreMet sig s D xs → (ys : List RawTerm) × (qs : Runs) × AreEvaluated M n s (all_sides C) gs ys qs (d + c) × AreMet sig s C ys)

  pub record GoesOn (n : ℕ) (s : Substitution) (C : List Fragment) (gs : Groups) (D : List Fragment) (hs : Groups) (count : Option ℕ) : Type 0 where
    pub faults : AtFault M most (suc n) D s hs → AtFault M most (suc n) C s gs
    pub stops : StopsIn M most (suc n) D s hs → StopsIn M most (suc n) C s gs
    pub shown : AreShownSoFar n s C gs D hs count

  -- What comes of a fragment's groups, which are in the rank below.
  abbrev pub IsFragment : ℕ → Substitution → Fragment → Groups → List Entry → Showing → Type 0
  IsFragment n s f gs rest showing.AtFault = (C : List Fragment) → AtFault M most (suc n) (f ∷ C) s gs
  IsFragment n s f gs rest (showing.Through count left) = (hs : Groups) × (left.now ≡ entries_of_groups hs ++ rest) × ((C : List Fragment) → GoesOn n s (f ∷ C) gs C hs count)

  -- What comes of a condition's groups: they show it, or a test stops in them, or they are at fault.
  abbrev pub IsShownBy : ℕ → List Fragment → Substitution → Groups → Option ℕ → Type 0
  IsShownBy n C s gs None = StopsIn M most n C s gs
  IsShownBy n C s gs (Some k) = (rs : Runs) × (c : ℕ) × Shown M n C s gs rs c × (k ≡ capped c)

  abbrev pub IsCondition : ℕ → List Fragment → Substitution → Groups → List Entry → Showing → Type 0
  IsCondition n C s gs rest showing.AtFault = AtFault M most n C s gs
  IsCondition n C s gs rest (showing.Through count left) = IsShownBy n C s gs count × (left.now ≡ rest)
