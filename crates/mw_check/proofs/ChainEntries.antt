-- Which items stand as entries.
use Rattle.std.specs.Prelude.{◌≡◌, ◌≤◌, ℕ, ◌-◌, List, [], ◌∷◌, ◌++◌, length, Bool, refl}
use Rattle.std.proofs.Common.{get_or, take, drop, ap, sym, subst, ◌∙◌, arith, append_assoc}
use Rattle.std.proofs.Math.Seq.{take-length}
use Rattle.mw_logic.specs.Term.{RawTerm}
use Rattle.mw_logic.specs.Signature.{Signature}
use Rattle.mw_logic.specs.Module.{Module}
use Rattle.mw_redex.specs.declared.replacing.Place.{Place}
use Rattle.mw_prooftext.specs.Grounds.{spot_of}
use Rattle.mw_items.specs.Items.{Spot, Item, step, built, Items, none, more, Groups}
use Rattle.mw_items.specs.Entries.{entries_of, entries_of_item, entries_of_groups}
use Rattle.mw_items.specs.declared.Step.{Step as StepEntry}
use Rattle.mw_items.specs.declared.Entry.{Entry}
use Rattle.mw_items.specs.declared.Entry.TheVariants.{Step, Built, Open, Close}
use Rattle.mw_check.specs.Chains.{HaveAdmittedValues, OpensNoGroup, BeginsItem, EndsItems, IsRuleAt, NamesRule, item_of}

-- what a slice begins with, and what stands behind it
pub front_and : {A : Type 0} (xs : List A) (x : A) → 1 ≤ length xs → x ≡ get_or xs 0 x → xs ≡ x ∷ take (length xs - 1) (drop 1 xs)
front_and [] x l e = absurd (omega arith)
front_and (y ∷ ys) x l e =
    let n : length (y ∷ ys) - 1 ≡ length ys = omega arith in
    rw (n, take-length ys) (ap (λ z. z ∷ ys) (sym e))

pub values_behind : (sig : Signature) (e : Entry) (es : List Entry) → HaveAdmittedValues sig (e ∷ es) → HaveAdmittedValues sig es
values_behind sig (Step s) es h = h.1
values_behind sig (Built p) es h = h
values_behind sig Open es h = h
values_behind sig Close es h = h

-- the item that a step begins
same_step : {s r : StepEntry} {es fs : List Entry} → Step s ∷ es ≡ Step r ∷ fs → s ≡ r
same_step e = cc

same_place : {p q : Place} {es fs : List Entry} → Built p ∷ es ≡ Built q ∷ fs → p ≡ q
same_place e = cc

same_behind : {d e : Entry} {es fs : List Entry} → d ∷ es ≡ e ∷ fs → es ≡ fs
same_behind e = cc

pub record IsStepFirst (s : StepEntry) (es : List Entry) (i : Item) (behind : List Entry) : Type 0 where
  pub groups : Groups
  pub is : i ≡ item_of s groups
  pub stand : es ≡ entries_of_groups groups ++ behind

pub step_first : (s : StepEntry) (es : List Entry) (i : Item) (behind : List Entry) → Step s ∷ es ≡ entries_of_item i ++ behind → IsStepFirst s es i behind
step_first s es (step owise k at vs gs) behind e = record { groups = gs; is = sym (ap (λ r. item_of r gs) (same_step e)); stand = same_behind e }
step_first s es (built at) behind e = cc

pub built_first : (p : Place) (es : List Entry) (i : Item) (behind : List Entry) → Built p ∷ es ≡ entries_of_item i ++ behind → (i ≡ built (spot_of p)) × (es ≡ behind)
built_first p es (step owise k at vs gs) behind e = cc
built_first p es (built at) behind e = (sym (ap (λ q. built (spot_of q)) (same_place e)), same_behind e)

begins : (i : Item) (behind : List Entry) → BeginsItem (entries_of_item i ++ behind)
begins (step owise k at vs gs) behind = tt
begins (built at) behind = tt

over_or_on : (es : List Entry) → EndsItems es → BeginsItem es → ⊥
over_or_on [] e b = b
over_or_on (Step s ∷ es) e b = e
over_or_on (Built p ∷ es) e b = e
over_or_on (Open ∷ es) e b = b
over_or_on (Close ∷ es) e b = b

over_opens_none : (es : List Entry) → EndsItems es → OpensNoGroup es
over_opens_none [] e = tt
over_opens_none (Step s ∷ es) e = absurd e
over_opens_none (Built p ∷ es) e = absurd e
over_opens_none (Open ∷ es) e = absurd e
over_opens_none (Close ∷ es) e = tt

on_opens_none : (i : Item) (behind : List Entry) → OpensNoGroup (entries_of_item i ++ behind)
on_opens_none (step owise k at vs gs) behind = tt
on_opens_none (built at) behind = tt

-- items and what ends them
pub items_open_none : (items : Items) (rest : List Entry) → EndsItems rest → OpensNoGroup (entries_of items ++ rest)
items_open_none none rest e = over_opens_none rest e
items_open_none (more i is) rest e = subst OpensNoGroup (sym (append_assoc (entries_of_item i) (entries_of is) rest)) (on_opens_none i (entries_of is ++ rest))

pub record IsItemFirst (es : List Entry) (items : Items) (rest : List Entry) : Type 0 where
  pub item : Item
  pub others : Items
  pub is : items ≡ more item others
  pub stand : es ≡ entries_of_item item ++ (entries_of others ++ rest)

-- Where an item begins there is one left, and where none does there is none.
pub item_left : (es : List Entry) (items : Items) (rest : List Entry) → es ≡ entries_of items ++ rest → EndsItems rest → BeginsItem es → IsItemFirst es items rest
item_left es none rest e o b = absurd (over_or_on rest o (subst BeginsItem e b))
item_left es (more i is) rest e o b = record { item = i; others = is; is = refl; stand = e ∙ append_assoc (entries_of_item i) (entries_of is) rest }

pub none_left : (es : List Entry) (items : Items) (rest : List Entry) → es ≡ entries_of items ++ rest → (BeginsItem es → ⊥) → (items ≡ none) × (es ≡ rest)
none_left es none rest e n = (refl, e)
none_left es (more i is) rest e n = absurd (n (subst BeginsItem (sym (e ∙ append_assoc (entries_of_item i) (entries_of is) rest)) (begins i (entries_of is ++ rest))))

-- what an item names is what its step names
pub record NamesRuleItself (M : Module) (i : Item) : Type 0 where
  pub owise : Bool
  pub number : ℕ
  pub at : Spot
  pub values : List RawTerm
  pub groups : Groups
  pub is : i ≡ step owise number at values groups
  pub rule : IsRuleAt M number

pub rule_named : (M : Module) (i : Item) (behind : List Entry) → NamesRule M (entries_of_item i ++ behind) → NamesRuleItself M i
rule_named M (step owise k at vs gs) behind h = record { owise = owise; number = k; at = at; values = vs; groups = gs; is = refl; rule = h }
rule_named M (built at) behind h = absurd h

-- where a step's statement isn't a rule
abbrev pub IsNoRule : Module → Item → Type 0
IsNoRule M (step owise k at vs gs) = IsRuleAt M k → ⊥
IsNoRule M (built at) = Unit {0}

pub no_rule_named : (M : Module) (i : Item) (behind : List Entry) → (NamesRule M (entries_of_item i ++ behind) → ⊥) → IsNoRule M i
no_rule_named M (step owise k at vs gs) behind h = h
no_rule_named M (built at) behind h = tt
