-- What an item names, the part where it stands, and what comes of it, are determined.
use Rattle.std.specs.Prelude.{◌≡◌, ℕ, List, [], ◌∷◌, map, Bool, false, cond, Option, refl}
use Rattle.std.specs.List.{zip}
use Rattle.std.proofs.Common.{ap, sym, subst, ◌∙◌, arith}
use Rattle.mw_logic.specs.Term.{RawTerm, numeral, quoted, variable, apply}
use Rattle.mw_logic.specs.Signature.{Signature}
use Rattle.mw_logic.specs.Substitution.{Substitution, instance}
use Rattle.mw_logic.specs.Parts.{nested}
use Rattle.mw_logic.specs.NormalForm.{normal_form}
use Rattle.mw_logic.specs.Module.{Module, Statement}
use Rattle.mw_deduction.specs.Runs.{Done, Dones}
use Rattle.mw_redex.specs.Replaced.{replaced_at, IsPartAt, IsOpenArgument, IsOpenWay, way_of_place, ReplacesAt}
use Rattle.mw_redex.proofs.Standing.{one_place}
use Rattle.mw_items.specs.Items.{Spot, Item, Items}
use Rattle.mw_prooftext.specs.Tells.{IsStep}
use Rattle.mw_prooftext.specs.Passing.{IsRow}
use Rattle.mw_verdict.specs.Checks.{NamesStatement, IsFormOf, Checks, nothing, then, ChecksOne, by_statement, by_row}
use Rattle.mw_verdict.specs.Exclusion.{HasOneRow}

-- equations may change what stands anywhere
open_argument : (sig : Signature) (t : RawTerm) (i : ℕ) → IsOpenArgument sig false t i
open_argument sig (numeral n) i = tt
open_argument sig (quoted q) i = tt
open_argument sig (variable x) i = tt
open_argument sig (apply f ts) i = λ h. cc

open_way : (sig : Signature) (path : List ℕ) (t : RawTerm) → IsOpenWay sig false path t
open_way sig [] t = tt
open_way sig (i ∷ path) t = (open_argument sig t i, λ u e. open_way sig path u)

-- one part stands at a place
pub one_part : (sig : Signature) (path : List ℕ) (take : Option (List ℕ)) (t w u : RawTerm) → IsPartAt sig path take t w → IsPartAt sig path take t u → w ≡ u
one_part sig path take t w u p q = (one_place sig false w u w t _ _ path take (at w p) (at u q)).0
  where
    at : (v : RawTerm) → IsPartAt sig path take t v → ReplacesAt sig false v w path take t (replaced_at sig path take w t)
    at v p = record { part = p; open_way = open_way sig (way_of_place path take) t; becomes = refl }

module _ {M : Module} {owise : Bool} {k : ℕ} {vs : List RawTerm} (h e : NamesStatement M owise k vs) where
  same_statement : h.statement ≡ e.statement
  same_statement = let a = h.is_there.is_there in let b = e.is_there.is_there in cc

  same_subst : h.subst ≡ e.subst
  same_subst = h.values.are ∙ ap (λ (st : Statement). zip st.variables (map (nested M.signature) vs)) same_statement ∙ sym e.values.are

-- what is said of the statement that a line names, and of its values, is said of all that it names
pub alike : {M : Module} {owise : Bool} {k : ℕ} {vs : List RawTerm} (h e : NamesStatement M owise k vs) (P : Statement → Substitution → Type 0) → P h.statement h.subst → P e.statement e.subst
alike h e P p = subst (λ s. P e.statement s) (same_subst h e) (subst (λ (st : Statement). P st h.subst) (same_statement h e) p)

-- a line that tells a step names its statement
abbrev pub named : {M : Module} {owise : Bool} {k : ℕ} {at : Spot} {vs : List RawTerm} {t w : RawTerm} → IsStep M owise k at vs t w → NamesStatement M owise k vs
named e = record { statement = e.statement; is_there = e.is_there; kind = e.kind; subst = e.subst; values = e.values }

module _ (M : Module) (one : HasOneRow M) where
  abbrev sig : Signature
  sig = M.signature

  same_row : {n : ℕ} {at : Spot} {t v w : RawTerm} → IsRow M n at t v → IsRow M n at t w → v ≡ w
  same_row {n} {at} {t} h e =
      let p : normal_form sig e.form ≡ normal_form sig h.form = one_part sig at.path at.take t (normal_form sig e.form) (normal_form sig h.form) e.replaces.part h.replaces.part in
      let x : IsFormOf sig (normal_form sig h.form) h.form = record { raw = h.raw; clean = h.clean; is = refl } in
      let y : IsFormOf sig (normal_form sig h.form) e.form = record { raw = e.raw; clean = e.clean; is = p } in
      h.replaces.becomes ∙ ap (λ z. replaced_at sig at.path at.take z t) (one n (normal_form sig h.form) h.form e.form h.result e.result x y h.row e.row) ∙ sym e.replaces.becomes

  -- the next term, and whether a rule leads there
  pub same_one : {n r q c d : ℕ} {i : Item} {t v w : RawTerm} {x y : Done} → ChecksOne M n i t v r c x → ChecksOne M n i t w q d y → (v ≡ w) × (r ≡ q)
  same_one {t = t} {v = v} (by_statement {at = at} h sorted bound there some plain shown) (by_statement e sorted' bound' there' some' plain' shown') = (
    (alike h e (λ st s. ReplacesAt sig st.rule (normal_form sig (instance s st.left)) (normal_form sig (instance s st.right)) at.path at.take t v) there).becomes ∙ sym there'.becomes,
    ap (λ (st : Statement). cond st.rule 1 0) (same_statement h e),
  )
  same_one (by_row h some) (by_row e some') = (same_row h e, refl)

  -- the last term, and the number of rules
  pub same_end : {n r q c d : ℕ} {is : Items} {t u w : RawTerm} {ds es : Dones} → Checks M n is t u r c ds → Checks M n is t w q d es → (u ≡ w) × (r ≡ q)
  same_end nothing nothing = (refl, refl)
  same_end {n} (then {is = is} {u = u} x a rest) (then {r = r} {d = c} {u = w} {ds = ds} y b more) =
      let (v, p) = same_one x y in
      let (e, q) = same_end rest (subst (λ v. Checks M n is v w r c ds) (sym v) more) in
      (e, omega (arith, p, q))
