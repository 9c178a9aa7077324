-- Which tokens are a proof text over a module, of version 1.
use Rattle.std.specs.Prelude.{◌≡◌, ◌≤◌, ℕ, suc, max, List, [], ◌∷◌, map, length, false, Option, Some, None, option_map, ⊤}
use Rattle.mw_logic.specs.Term.{RawTerm}
use Rattle.mw_logic.specs.Signature.{Signature, at_number}
use Rattle.mw_logic.specs.Module.{Module, Statement}
use Rattle.mw_deduction.specs.Replay.{all_sides}
use Rattle.mw_canon.specs.Canonical.{IsAdmittedTerm}
use Rattle.mw_print.specs.PrefixLaws.{IsTold, most_open}
use Rattle.mw_items.specs.Items.{Spot, Item, step, built, Items, none, more, Groups, end, group}
use Rattle.mw_proofread.specs.Numbers.{IsTake, entry_number}
use Rattle.mw_proofread.specs.TokenTexts.{form_tokens, text_tokens}

-- The term may stand in a text: it is a canonical term that is admitted, has a form that tells it, and there at most 999 parentheses are open at once.
pub record IsWritten (sig : Signature) (t : RawTerm) : Type 0 where
  pub admitted : IsAdmittedTerm sig t
  pub told : IsTold t
  pub shallow : most_open 0 (form_tokens sig t) ≤ 999

abbrev pub AreWritten : Signature → List RawTerm → Type 0
AreWritten sig [] = ⊤
AreWritten sig (t ∷ ts) = IsWritten sig t × AreWritten sig ts

-- as many, where a number is asked for
abbrev pub IsCount : Option ℕ → ℕ → Type 0
IsCount None n = ⊤
IsCount (Some m) n = n ≡ m

-- How many values and groups statement k takes: a value for each variable, and a group for each side of its fragments. Where there is no such statement, any
-- number of either.
abbrev pub values_of : Module → ℕ → Option ℕ
values_of M k = option_map (λ (e : Statement). length e.variables) (at_number M.statements k)

abbrev pub groups_of : Module → ℕ → Option ℕ
groups_of M k = option_map (λ (e : Statement). length (all_sides e.fragments)) (at_number M.statements k)

abbrev pub number_of_groups : Groups → ℕ
number_of_groups end = 0
number_of_groups (group g gs) = suc (number_of_groups gs)

-- What an item has beside its tokens. An `owise` line isn't of the form.
abbrev mutual
  pub HasForm : Module → Item → Type 0
  HasForm M (step owise k s vs gs) = (owise ≡ false) × IsTake s.take × AreWritten M.signature vs × IsCount (values_of M k) (length vs) × IsCount (groups_of M k) (number_of_groups gs) × GroupsHaveForm M gs
  HasForm M (built s) = IsTake s.take

  pub HaveForm : Module → Items → Type 0
  HaveForm M none = ⊤
  HaveForm M (more i is) = HasForm M i × HaveForm M is

  pub GroupsHaveForm : Module → Groups → Type 0
  GroupsHaveForm M end = ⊤
  GroupsHaveForm M (group g gs) = HaveForm M g × GroupsHaveForm M gs

-- how many `where` stand inside one another
abbrev mutual
  pub wheres : Item → ℕ
  wheres (step owise k s vs end) = 0
  wheres (step owise k s vs (group g gs)) = suc (max (most_wheres g) (wheres_in gs))
  wheres (built s) = 0

  pub most_wheres : Items → ℕ
  most_wheres none = 0
  most_wheres (more i is) = max (wheres i) (most_wheres is)

  pub wheres_in : Groups → ℕ
  wheres_in end = 0
  wheres_in (group g gs) = max (most_wheres g) (wheres_in gs)

-- The tokens are the text of these items, from one term to another, in a module of some name.
pub record IsText (M : Module) (tokens : List (List ℕ)) (version : ℕ) (from : RawTerm) (items : Items) (to : RawTerm) : Type 0 where
  pub name : List ℕ
  pub is : tokens ≡ text_tokens M.signature version name from items to
  pub version_is : version ≡ 1
  pub begins : IsWritten M.signature from
  pub have_form : HaveForm M items
  pub nested : most_wheres items ≤ 63
  pub ends : IsWritten M.signature to

-- items with numbers as entries have them
abbrev pub entry_spot : Spot → Spot
entry_spot s = record { path = map entry_number s.path; take = option_map (map entry_number) s.take }

abbrev mutual
  pub entry_item : Item → Item
  entry_item (step owise k s vs gs) = step owise (entry_number k) (entry_spot s) vs (entry_groups gs)
  entry_item (built s) = built (entry_spot s)

  pub entry_items : Items → Items
  entry_items none = none
  entry_items (more i is) = more (entry_item i) (entry_items is)

  pub entry_groups : Groups → Groups
  entry_groups end = end
  entry_groups (group g gs) = group (entry_items g) (entry_groups gs)
