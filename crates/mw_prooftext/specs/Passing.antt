-- The tests that the items of a text pass on the way from one canonical term to another: all but those of conditions. Each item names what is there and may be
-- applied where it stands, and the next term is within the limits. So it is in the groups of its evidence, one rank below.
use Rattle.std.specs.Prelude.{ℕ, suc, List, [], ◌∷◌, Bool, false, IsTrue}
use Rattle.mw_logic.specs.Term.{RawTerm}
use Rattle.mw_logic.specs.Signature.{IsRawTerm}
use Rattle.mw_logic.specs.Substitution.{Substitution, instance, IsSubstitution}
use Rattle.mw_logic.specs.Parts.{nested, IsClean, IsAdmitted}
use Rattle.mw_logic.specs.NormalForm.{normal_form}
use Rattle.mw_logic.specs.Module.{Module, binds_statement, Row}
use Rattle.mw_logic.specs.Judgements.{IsNormal}
use Rattle.mw_deduction.specs.Replay.{all_sides}
use Rattle.mw_spot.specs.Spots.{TakesPart}
use Rattle.mw_items.specs.Items.{Spot, Item, step, built, Items, none, more, Groups, end, group}
use Rattle.mw_prooftext.specs.Tells.{ReplacesSpot, IsStep}

-- where arguments are taken, they are not all that there are
abbrev pub TakesSome : Spot → RawTerm → Type 0
TakesSome at t = TakesPart at.path at.take t

-- A row replaces there: it leads from a clean form of the part, and terms that it wants to be normal are normal at rank n.
pub record IsRow (M : Module) (n : ℕ) (s : Spot) (t u : RawTerm) : Type 0 where
  pub form : RawTerm
  pub result : RawTerm
  pub row : Row M.signature (IsNormal M n) form result
  pub raw : IsRawTerm M.signature form
  pub clean : IsClean M.signature form
  pub replaces : ReplacesSpot M.signature false form result s t u

module _ (M : Module) where
  mutual
    -- One item: its statement is executable and there, the values are of their variables' sorts, its part stands at the place, and its groups pass.
    pub data PassesOne : ℕ → Item → RawTerm → RawTerm → Type 0 where
      a_statement : {n k : ℕ} {owise : Bool} {at : Spot} {vs : List RawTerm} {gs : Groups} {t v : RawTerm} (h : IsStep M owise k at vs t v) → IsSubstitution M.signature h.subst
          → IsTrue (binds_statement h.subst h.statement) → TakesSome at t → GroupsPass n gs h.subst (all_sides h.statement.fragments) → PassesOne n (step owise k at vs gs) t v
      a_row : {n : ℕ} {at : Spot} {t v : RawTerm} → IsRow M n at t v → TakesSome at t → PassesOne n (built at) t v

    pub data Passes : ℕ → Items → RawTerm → RawTerm → Type 0 where
      nothing : {n : ℕ} {t : RawTerm} → Passes n none t t
      then : {n : ℕ} {i : Item} {is : Items} {t v u : RawTerm} → PassesOne n i t v → IsAdmitted M.signature (nested M.signature v) → Passes n is v u → Passes n (more i is) t u

    -- Each of these sides has a group, whose items pass in the rank below, from its instance in canonical form to some term. That this is normal, and meets the
    -- condition, is not said.
    pub data GroupsPass : ℕ → Groups → Substitution → List RawTerm → Type 0 where
      no_side : {n : ℕ} {s : Substitution} → GroupsPass n end s []
      a_side : {n : ℕ} {g : Items} {gs : Groups} {s : Substitution} {l u : RawTerm} {ls : List RawTerm} → Passes n g (normal_form M.signature (instance s l)) u → GroupsPass (suc n) gs s ls
          → GroupsPass (suc n) (group g gs) s (l ∷ ls)
