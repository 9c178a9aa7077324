-- The answers of a checker of proof texts: yes; or no, with the number of the first item that is at fault, and its cause, the first one in the order of the
-- tests. An item that is at fault for one of them has passed the tests before. Normality is tested by a search, which may stop.
use Rattle.std.specs.Prelude.{◌≡◌, ◌≢◌, ◌⊎◌, ℕ, suc, List, [], ◌∷◌, Bool, codes, IsTrue, ⊤}
use Rattle.mw_logic.specs.Term.{RawTerm, binary}
use Rattle.mw_logic.specs.Signature.{Signature}
use Rattle.mw_logic.specs.Axioms.{EqualModulo}
use Rattle.mw_logic.specs.Substitution.{Substitution, instance, IsSubstitution}
use Rattle.mw_logic.specs.Parts.{nested, IsAdmitted}
use Rattle.mw_logic.specs.NormalForm.{normal_form}
use Rattle.mw_logic.specs.Module.{Fragment, Statement, Module, IsStatement, IsPolymorphic, Row}
use Rattle.mw_logic.specs.Proof.{reflexivity}
use Rattle.mw_logic.specs.Ends.{Reason, Stops, StopsAtOnce, limits_of}
use Rattle.mw_logic.specs.Confluence.{IsReducible}
use Rattle.mw_deduction.specs.Runs.{Done, Dones}
use Rattle.mw_deduction.specs.Replay.{sides_of, all_sides}
use Rattle.mw_redex.specs.Replaced.{IsPartAt}
use Rattle.mw_items.specs.Items.{Spot, Item, step, built, Items, none, more, Groups, end, group}
use Rattle.mw_prooftext.specs.Tells.{ReplacesSpot}
use Rattle.mw_prooftext.specs.Passing.{TakesSome}
use Rattle.mw_verdict.specs.Checks.{NamesStatement, IsFormOf, Meets, Checks, ChecksOne}
use Rattle.mw_verdict.specs.Leads.{LeadsOne, ItemsLead}

-- No module of that name, or no text of the form, which the caller tells; no such statement, a value that isn't of its variable's sort, no such part, arguments
-- that are taken twice (of a later version), a condition that isn't shown, a test of normality that stopped, a next term past the limits, another last term.
pub data Cause : Type 0 where
  no_module : Cause
  not_of_form : Cause
  no_statement : Cause
  ill_sorted : Cause
  no_part : Cause
  overlaps : Cause
  no_condition : Cause
  stopped : Cause
  past_limit : Cause
  not_the_end : Cause

-- item i stands between these
pub data Splits : Items → Item → Items → Items → Type 0 where
  first : {i : Item} {rest : Items} → Splits none i rest (more i rest)
  later : {j i : Item} {before rest items : Items} → Splits before i rest items → Splits (more j before) i rest (more j items)

-- the side l has the group g
pub data HasGroup (l : RawTerm) (g : Items) : List RawTerm → Groups → Type 0 where
  the_first : {ls : List RawTerm} {gs : Groups} → HasGroup l g (l ∷ ls) (group g gs)
  a_later : {m : RawTerm} {ls : List RawTerm} {h : Items} {gs : Groups} → HasGroup l g ls gs → HasGroup l g (m ∷ ls) (group h gs)

-- the groups behind those of these sides
abbrev pub behind : List RawTerm → Groups → Groups
behind [] gs = gs
behind (l ∷ ls) end = end
behind (l ∷ ls) (group g gs) = behind ls gs

abbrev pub number_of : Items → ℕ
number_of none = 0
number_of (more i is) = suc (number_of is)

-- The groups of these sides lead to these ends. Each side is admitted, else its group is not carried out.
pub data AreLed (M : Module) (s : Substitution) : List RawTerm → Groups → List RawTerm → Type 0 where
  no_more : {gs : Groups} → AreLed M s [] gs []
  one_more : {l a : RawTerm} {ls xs : List RawTerm} {g : Items} {gs : Groups} → IsAdmitted M.signature (instance s l) → ItemsLead M g (normal_form M.signature (instance s l)) a → AreLed M s ls gs xs
      → AreLed M s (l ∷ ls) (group g gs) (a ∷ xs)

-- with so many steps at most for each side of a condition, in tests of normality
module _ (M : Module) (most : ℕ) where
  abbrev sig : Signature
  sig = M.signature

  -- a test of normality of rank n stops at t
  abbrev pub IsStopped : ℕ → RawTerm → Type 0
  IsStopped n t = (why : Reason) × (StopsAtOnce M t why ⊎ Stops M n (limits_of most) t reflexivity t why)

  mutual
    -- At the canonical t, in rank n, the item is at fault for this cause, and the tests before it are passed.
    pub data Refuses : ℕ → Item → RawTerm → Cause → Type 0 where
      statement_missing : {n k : ℕ} {owise : Bool} {at : Spot} {vs : List RawTerm} {gs : Groups} {t : RawTerm}
          → ((st : Statement) → IsStatement M k st → owise ≡ st.owise → ⊥) → Refuses n (step owise k at vs gs) t no_statement
      row_missing : {n : ℕ} {at : Spot} {t w : RawTerm} → IsPartAt sig at.path at.take t w → TakesSome at t
          → ((form result : RawTerm) → IsFormOf sig w form → ¬ Row sig (λ v. ⊤) form result) → Refuses n (built at) t no_statement
      value_ill_sorted : {n k : ℕ} {owise : Bool} {at : Spot} {vs : List RawTerm} {gs : Groups} {t : RawTerm} (h : NamesStatement M owise k vs)
          → ¬ IsSubstitution sig h.subst → Refuses n (step owise k at vs gs) t ill_sorted
      part_missing : {n k : ℕ} {owise : Bool} {at : Spot} {vs : List RawTerm} {gs : Groups} {t : RawTerm} (h : NamesStatement M owise k vs) → IsSubstitution sig h.subst
          → ((v : RawTerm) → ¬ (ReplacesSpot sig h.statement.rule (instance h.subst h.statement.left) (instance h.subst h.statement.right) at t v × TakesSome at t)) → Refuses n (step owise k at vs gs) t no_part
      spot_missing : {n : ℕ} {at : Spot} {t : RawTerm} → ((w : RawTerm) → ¬ (IsPartAt sig at.path at.take t w × TakesSome at t)) → Refuses n (built at) t no_part
      condition_fails : {n k : ℕ} {owise : Bool} {at : Spot} {vs : List RawTerm} {gs : Groups} {t v : RawTerm} (h : NamesStatement M owise k vs) → IsSubstitution sig h.subst
          → ReplacesSpot sig h.statement.rule (instance h.subst h.statement.left) (instance h.subst h.statement.right) at t v → TakesSome at t
          → AtFault n h.statement.fragments h.subst gs → Refuses n (step owise k at vs gs) t no_condition
      -- a row is met where each term passes for normal, and none where a reducible one does not
      sides_not_normal : {n : ℕ} {at : Spot} {t w form result : RawTerm} → IsPartAt sig at.path at.take t w → TakesSome at t → IsFormOf sig w form → Row sig (λ v. ⊤) form result
          → ((f x : RawTerm) → IsFormOf sig w f → ¬ Row sig (λ v. ¬ IsReducible M n v) f x) → Refuses n (built at) t no_condition
      condition_stops : {n k : ℕ} {owise : Bool} {at : Spot} {vs : List RawTerm} {gs : Groups} {t v : RawTerm} (h : NamesStatement M owise k vs) → IsSubstitution sig h.subst
          → ReplacesSpot sig h.statement.rule (instance h.subst h.statement.left) (instance h.subst h.statement.right) at t v → TakesSome at t
          → StopsIn n h.statement.fragments h.subst gs → Refuses n (step owise k at vs gs) t stopped
      -- a side of a test of different terms
      sides_stop : {n f : ℕ} {at : Spot} {t w a b result : RawTerm} → IsPartAt sig at.path at.take t w → TakesSome at t → IsFormOf sig w (binary f a b) → Row sig (λ v. ⊤) (binary f a b) result
          → IsPolymorphic sig f (codes "_==_") ⊎ IsPolymorphic sig f (codes "_=/=_") → ¬ EqualModulo sig a b → IsStopped n a ⊎ IsStopped n b → Refuses n (built at) t stopped
      next_past_limit : {n r c : ℕ} {i : Item} {t v : RawTerm} {x : Done} → ChecksOne M n i t v r c x → ¬ IsAdmitted sig (nested sig v) → Refuses n i t past_limit

    -- The groups are at fault for the condition: one of them is, whose side is admitted, or the ends of a fragment's sides do not meet it. Where a side isn't
    -- admitted a test stops, and nothing else is tested of its group.
    pub data AtFault : ℕ → List Fragment → Substitution → Groups → Type 0 where
      a_chain : {n : ℕ} {C : List Fragment} {s : Substitution} {gs : Groups} {l : RawTerm} {g : Items} → HasGroup l g (all_sides C) gs → IsAdmitted sig (instance s l) → ChainAtFault n (instance s l) g → AtFault (suc n) C s gs
      the_ends : {n : ℕ} {f : Fragment} {C : List Fragment} {s : Substitution} {gs : Groups} {xs : List RawTerm} → AreLed M s (sides_of f) gs xs → ¬ Meets sig s f xs → AtFault (suc n) (f ∷ C) s gs
      behind_them : {n : ℕ} {f : Fragment} {C : List Fragment} {s : Substitution} {gs : Groups} → AtFault n C s (behind (sides_of f) gs) → AtFault n (f ∷ C) s gs

    -- From this instance of a side an item is at fault, for a cause that is told, where those before it lead; or the next term of one that may have stopped is past
    -- the limits; or one names a rule; or the end is reducible.
    pub data ChainAtFault : ℕ → RawTerm → Items → Type 0 where
      at_item : {n : ℕ} {l v : RawTerm} {before rest items : Items} {i : Item} {cause : Cause} → Splits before i rest items → ItemsLead M before (normal_form sig l) v
          → Refuses n i v cause → cause ≢ stopped → ChainAtFault n l items
      past_limits : {n : ℕ} {l v w : RawTerm} {before rest items : Items} {i : Item} → Splits before i rest items → ItemsLead M before (normal_form sig l) v → LeadsOne M i v w
          → ¬ IsAdmitted sig (nested sig w) → ChainAtFault n l items
      by_a_rule : {n k : ℕ} {owise : Bool} {at : Spot} {vs : List RawTerm} {gs : Groups} {l : RawTerm} {before rest items : Items} {st : Statement} → Splits before (step owise k at vs gs) rest items
          → IsStatement M k st → IsTrue st.rule → ChainAtFault n l items
      not_normal : {n : ℕ} {l a : RawTerm} {items : Items} → ItemsLead M items (normal_form sig l) a → IsReducible M n (nested sig a) → ChainAtFault n l items

    -- A test of normality stops in the groups: a side is not admitted, it stops in an item, or at the end.
    pub data StopsIn : ℕ → List Fragment → Substitution → Groups → Type 0 where
      a_side : {n : ℕ} {C : List Fragment} {s : Substitution} {gs : Groups} {l : RawTerm} {g : Items} → HasGroup l g (all_sides C) gs → (why : Reason) → StopsAtOnce M (instance s l) why → StopsIn (suc n) C s gs
      an_item : {n : ℕ} {C : List Fragment} {s : Substitution} {gs : Groups} {l v : RawTerm} {before rest g : Items} {i : Item} → HasGroup l g (all_sides C) gs → Splits before i rest g
          → ItemsLead M before (normal_form sig (instance s l)) v → Refuses n i v stopped → StopsIn (suc n) C s gs
      an_end : {n : ℕ} {C : List Fragment} {s : Substitution} {gs : Groups} {l a : RawTerm} {g : Items} → HasGroup l g (all_sides C) gs
          → ItemsLead M g (normal_form sig (instance s l)) a → IsStopped n (nested sig a) → StopsIn (suc n) C s gs

  -- The items lead from the one canonical term to the other, with so many replacements in all.
  pub record IsYes (from to : RawTerm) (items : Items) (count : ℕ) : Type 0 where
    pub rules : ℕ
    pub run : Dones
    pub checks : Checks M 63 items from to rules count run

  -- The items before item j are checked, and it is at fault; or all are, and lead to another term. Items are numbered from 1.
  pub data IsNo (from to : RawTerm) (items : Items) : ℕ → Cause → Type 0 where
    in_item : {r c : ℕ} {before rest : Items} {i : Item} {v : RawTerm} {ds : Dones} {cause : Cause} → Splits before i rest items → Checks M 63 before from v r c ds → Refuses 63 i v cause
        → IsNo from to items (suc (number_of before)) cause
    at_end : {r c : ℕ} {u : RawTerm} {ds : Dones} → Checks M 63 items from u r c ds → u ≢ to → IsNo from to items (suc (number_of items)) not_the_end
