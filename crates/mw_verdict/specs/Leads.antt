-- Where items lead, whatever the tests of values, conditions and limits find: each replaces in the term that the one before it left. So a term is placed in a
-- group behind items whose tests of normality stopped.
use Rattle.std.specs.Prelude.{◌≡◌, ℕ, List, Bool, true, false}
use Rattle.mw_logic.specs.Term.{RawTerm, RawTerms, apply, nil, cons}
use Rattle.mw_logic.specs.Signature.{Signature, IsRawTerm}
use Rattle.mw_logic.specs.Parts.{is_assoc, IsClean}
use Rattle.mw_logic.specs.NormalForm.{normal_form, own_arguments}
use Rattle.mw_logic.specs.Module.{Module, Row}
use Rattle.mw_items.specs.Items.{Spot, Item, step, built, Items, none, more, Groups}
use Rattle.mw_prooftext.specs.Tells.{ReplacesSpot, IsStep}

-- v is one argument of the operator on top of t, and not several, where that is associative.
abbrev pub IsOneArgument : Signature → RawTerm → RawTerm → Type 0
IsOneArgument sig t v = (f : ℕ) (ts : RawTerms) → t ≡ apply f ts → is_assoc sig f ≡ true → own_arguments f (normal_form sig v) ≡ cons (normal_form sig v) nil

-- A row replaces there, with any terms taken as normal that are one argument each. With several taken as one, an associative test that is met by equal terms
-- would be met by different ones too.
pub record IsComputed (M : Module) (s : Spot) (t u : RawTerm) : Type 0 where
  pub form : RawTerm
  pub result : RawTerm
  pub row : Row M.signature (IsOneArgument M.signature form) form result
  pub raw : IsRawTerm M.signature form
  pub clean : IsClean M.signature form
  pub replaces : ReplacesSpot M.signature false form result s t u

module _ (M : Module) where
  pub data LeadsOne : Item → RawTerm → RawTerm → Type 0 where
    a_step : {k : ℕ} {owise : Bool} {at : Spot} {vs : List RawTerm} {gs : Groups} {t u : RawTerm} → IsStep M owise k at vs t u → LeadsOne (step owise k at vs gs) t u
    a_row : {at : Spot} {t u : RawTerm} → IsComputed M at t u → LeadsOne (built at) t u

  -- from the canonical t the items lead to u
  pub data ItemsLead : Items → RawTerm → RawTerm → Type 0 where
    nowhere : {t : RawTerm} → ItemsLead none t t
    onward : {i : Item} {is : Items} {t v u : RawTerm} → LeadsOne i t v → ItemsLead is v u → ItemsLead (more i is) t u
