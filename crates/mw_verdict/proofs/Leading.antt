-- Items that are checked lead to their last term, and to no other.
use Rattle.std.specs.Prelude.{◌≡◌, ◌≢◌, ℕ, List, Bool, true, false, cond, IsTrue, refl}
use Rattle.std.proofs.Common.{ap, sym, subst, ◌∙◌, arith}
use Rattle.mw_logic.specs.Term.{RawTerm, RawTerms, apply, nil, cons}
use Rattle.mw_logic.specs.Signature.{Signature, IsRawTerm}
use Rattle.mw_logic.specs.Accepted.{IsAccepted}
use Rattle.mw_logic.specs.Substitution.{instance}
use Rattle.mw_logic.specs.Parts.{is_assoc, IsClean}
use Rattle.mw_logic.specs.NormalForm.{normal_form, own_arguments}
use Rattle.mw_logic.specs.Module.{Module, Statement, IsStatement, IsPolymorphic, Row, arithmetic, equal_terms, unequal_terms, not_different, different, if_true, if_false}
use Rattle.mw_logic.specs.Judgements.{IsNormal}
use Rattle.mw_deduction.specs.Runs.{Done, Dones}
use Rattle.mw_redex.specs.Replaced.{replaced_at, ReplacesAt}
use Rattle.mw_items.specs.Items.{Spot, Item, step, Items, Groups}
use Rattle.mw_prooftext.specs.Passing.{IsRow}
use Rattle.mw_verdict.specs.Checks.{IsFormOf, Checks, nothing, then, ChecksOne, by_statement, by_row}
use Rattle.mw_verdict.specs.Leads.{IsOneArgument, IsComputed, LeadsOne, a_step, a_row, ItemsLead, nowhere, onward}
use Rattle.mw_verdict.specs.Verdicts.{Splits, first, later}
use Rattle.mw_verdict.specs.Exclusion.{HasOneRow, IsChecked, CheckedLead}
use Rattle.mw_verdict.proofs.Same.{alike, named, one_part}
use Rattle.mw_verdict.proofs.RowKinds.{Kind, test_name, Shape, of_numbers, of_test, of_choice, shape_of, one_kind}
use Rattle.mw_verdict.proofs.OneRow.{elements_in, IsAlone, alone, both_equal, same_top, sides_raw, no_row}

-- a rule that an item names counts among the rules
pub rule_counted : {M : Module} {n k : ℕ} {owise : Bool} {at : Spot} {vs : List RawTerm} {gs : Groups} {before rest items : Items} {t u : RawTerm} {st : Statement} {r c : ℕ} {ds : Dones} → Splits before (step owise k at vs gs) rest items
    → IsStatement M k st → IsTrue st.rule → Checks M n items t u r c ds → r ≢ 0
rule_counted {st = st} first there rule (then {r = r} (by_statement h sorted bound at some plain shown) a rest) e =
    let x = there.is_there in
    let y = h.is_there.is_there in
    let same : h.statement ≡ st = cc in
    let one : ◌≡◌ {A = ℕ} (cond h.statement.rule 1 0) 1 = ap (λ b. cond b 1 0) (subst (λ (st : Statement). IsTrue st.rule) (sym same) rule) in
    omega (arith, one, e)
rule_counted (later s) there rule (then {r = r} x a rest) e = rule_counted s there rule rest (omega (arith, e))

module _ (M : Module) (ok : IsAccepted M.signature) where
  abbrev sig : Signature
  sig = M.signature

  -- a side of a test that is one argument, and one that is normal
  single : {f : ℕ} {ts : RawTerms} (v : RawTerm) → IsOneArgument sig (apply f ts) v → IsAlone sig ok f v
  single {f} {ts} v h = by_assoc (is_assoc sig f) refl
    where
      by_assoc : (m : Bool) → is_assoc sig f ≡ m → elements_in m f (normal_form sig v) ≡ cons (normal_form sig v) nil
      by_assoc true e = h f ts refl e
      by_assoc false e = refl

  normal_single : (n : ℕ) {f : ℕ} {ts : RawTerms} (e : Bool) (v : RawTerm) → IsPolymorphic sig f (test_name e) → IsRawTerm sig v → IsClean sig v → IsNormal M n v → IsOneArgument sig (apply f ts) v
  normal_single n {f} {ts} e v p r c h g us same assoc =
      let q : f ≡ g = cc in
      subst (λ g. own_arguments g (normal_form sig v) ≡ cons (normal_form sig v) nil) q
      (subst (λ m. elements_in m f (normal_form sig v) ≡ cons (normal_form sig v) nil) (ap (is_assoc sig) q ∙ assoc) (alone sig ok (IsNormal M n) (no_row M n) e f v p r c h))

  -- so a row that is met by normal sides is by single ones
  singly : (n : ℕ) {v x : RawTerm} → IsRawTerm sig v → IsClean sig v → Row sig (IsNormal M n) v x → Row sig (IsOneArgument sig v) v x
  singly n r c (arithmetic b p d) = arithmetic b p d
  singly n r c (equal_terms p q t) = equal_terms p q t
  singly n r c (unequal_terms {u = u} {v = v} p l m q t) = let (a, b) = sides_raw sig ok r in unequal_terms p (normal_single n true u p a c.0.0 l) (normal_single n true v p b c.0.1.0 m) q t
  singly n r c (not_different p q t) = not_different p q t
  singly n r c (different {u = u} {v = v} p l m q t) = let (a, b) = sides_raw sig ok r in different p (normal_single n false u p a c.0.0 l) (normal_single n false v p b c.0.1.0 m) q t
  singly n r c (if_true p t) = if_true p t
  singly n r c (if_false p t) = if_false p t

  -- and so is what an item computes
  pub computed : {n : ℕ} {at : Spot} {t v : RawTerm} → IsRow M n at t v → IsComputed M at t v
  computed {n} h = record { form = h.form; result = h.result; row = singly n h.raw h.clean h.row; raw = h.raw; clean = h.clean; replaces = h.replaces }

  checked_leads_one : {n r c : ℕ} {i : Item} {t v : RawTerm} {x : Done} → ChecksOne M n i t v r c x → LeadsOne M i t v
  checked_leads_one (by_statement h sorted bound there some plain shown) = a_step (record { statement = h.statement; is_there = h.is_there; kind = h.kind; subst = h.subst; values = h.values; replaces = there })
  checked_leads_one (by_row h some) = a_row (computed h)

  pub checked_leads : {n r c : ℕ} {is : Items} {t u : RawTerm} {ds : Dones} → Checks M n is t u r c ds → ItemsLead M is t u
  checked_leads nothing = nowhere
  checked_leads (then x a rest) = onward (checked_leads_one x) (checked_leads rest)

  module _ (one : HasOneRow M) where
    -- a row that is met by normal sides of one form, and one that is by single sides of another, make one term
    one_made : (n : ℕ) {f : ℕ} {ts us : RawTerms} {k : Kind} {w x y : RawTerm} → IsFormOf sig w (apply f ts) → IsFormOf sig w (apply f us) → Row sig (IsNormal M n) (apply f ts) x
        → Shape sig (IsNormal M n) f ts k x → Shape sig (IsOneArgument sig (apply f us)) f us k y → normal_form sig x ≡ normal_form sig y
    one_made n {f} {ts} {us} {w = w} {x = x} {y = y} h e r s (of_numbers {b = b} p d) = one n w (apply f ts) (apply f us) x y h e r (arithmetic b p d)
    one_made n {f} {ts} {us} {w = w} {x = x} {y = y} h e r s (of_choice true p d) = one n w (apply f ts) (apply f us) x y h e r (if_true p d)
    one_made n {f} {ts} {us} {w = w} {x = x} {y = y} h e r s (of_choice false p d) = one n w (apply f ts) (apply f us) x y h e r (if_false p d)
    one_made n {f} {ts} {us} {w = w} {x = x} {y = y} h e r s (of_test {e = true} true p q d) = one n w (apply f ts) (apply f us) x y h e r (equal_terms p q d)
    one_made n {f} {ts} {us} {w = w} {x = x} {y = y} h e r s (of_test {e = false} true p q d) = one n w (apply f ts) (apply f us) x y h e r (not_different p q d)
    one_made n {f} {w = w} h e r (of_test {u = u} {v = v} true p q d) (of_test {u = a} {v = b} false p' q' d') = absurd (q'.2 (both_equal sig ok f u v a b w h e q (single a q'.0) (single b q'.1)))
    one_made n {f} {ts} {w = w} {x = x} {y = y} h e r (of_test {e = true} false p q d) (of_test false p' q' d') = one n w (apply f ts) (apply f ts) x y h h r (unequal_terms p q.0 q.1 q.2 d')
    one_made n {f} {ts} {w = w} {x = x} {y = y} h e r (of_test {e = false} false p q d) (of_test false p' q' d') = one n w (apply f ts) (apply f ts) x y h h r (different p q.0 q.1 q.2 d')

    row_made : (n : ℕ) {w v u x y : RawTerm} → IsFormOf sig w v → IsFormOf sig w u → Row sig (IsNormal M n) v x → Row sig (IsOneArgument sig u) u y → normal_form sig x ≡ normal_form sig y
    row_made n {w} {x = x} {y = y} h e r s =
        let S = shape_of r in
        let T = shape_of s in
        let a : IsFormOf sig w (apply S.operator S.args) = subst (IsFormOf sig w) S.is h in
        let b : IsFormOf sig w (apply T.operator T.args) = subst (IsFormOf sig w) T.is e in
        let f : T.operator ≡ S.operator = same_top sig ok b a in
        let c : IsFormOf sig w (apply S.operator T.args) = subst (λ g. IsFormOf sig w (apply g T.args)) f b in
        let t : Shape sig (IsOneArgument sig (apply T.operator T.args)) T.operator T.args T.kind y = subst (λ v. Shape sig (IsOneArgument sig v) T.operator T.args T.kind y) T.is T.shape in
        let q : Shape sig (IsOneArgument sig (apply S.operator T.args)) S.operator T.args T.kind y = subst (λ g. Shape sig (IsOneArgument sig (apply g T.args)) g T.args T.kind y) f t in
        one_made n a c (subst (λ v. Row sig (IsNormal M n) v x) S.is r) S.shape (subst (λ k. Shape sig (IsOneArgument sig (apply S.operator T.args)) S.operator T.args k y) (one_kind q S.shape) q)

    same_computed : {n : ℕ} {at : Spot} {t v w : RawTerm} → IsRow M n at t v → IsComputed M at t w → v ≡ w
    same_computed {n} {at} {t} h e =
        let p : normal_form sig e.form ≡ normal_form sig h.form = one_part sig at.path at.take t (normal_form sig e.form) (normal_form sig h.form) e.replaces.part h.replaces.part in
        let x : IsFormOf sig (normal_form sig h.form) h.form = record { raw = h.raw; clean = h.clean; is = refl } in
        let y : IsFormOf sig (normal_form sig h.form) e.form = record { raw = e.raw; clean = e.clean; is = p } in
        h.replaces.becomes ∙ ap (λ z. replaced_at sig at.path at.take z t) (row_made n x y h.row e.row) ∙ sym e.replaces.becomes

    pub same_led : {n r c : ℕ} {i : Item} {t v w : RawTerm} {x : Done} → ChecksOne M n i t v r c x → LeadsOne M i t w → v ≡ w
    same_led {t = t} {v = v} (by_statement {at = at} h sorted bound there some plain shown) (a_step e) =
        (alike h (named e) (λ st s. ReplacesAt sig st.rule (normal_form sig (instance s st.left)) (normal_form sig (instance s st.right)) at.path at.take t v) there).becomes ∙ sym e.replaces.becomes
    same_led (by_row h some) (a_row e) = same_computed h e

    pub only_end : {n r c : ℕ} {is : Items} {t u w : RawTerm} {ds : Dones} → Checks M n is t u r c ds → ItemsLead M is t w → u ≡ w
    only_end nothing nowhere = refl
    only_end {w = w} (then {is = is} x a rest) (onward e more) = only_end rest (subst (λ v. ItemsLead M is v w) (sym (same_led x e)) more)

    -- of items that are checked each is, at the term to which those before it lead
    pub found_led : {n : ℕ} {before rest items : Items} {i : Item} {t u v : RawTerm} {r c : ℕ} {ds : Dones} → Splits before i rest items → Checks M n items t u r c ds → ItemsLead M before t v → IsChecked M n i v
    found_led first (then {q = r} {c = c} {v = w} {x = x} y a rest) nowhere = record { next = w; rules = r; count = c; done = x; checks = y; admitted = a }
    found_led {v = w} (later {before = before} s) (then x a rest) (onward e more) = found_led s rest (subst (λ v. ItemsLead M before v w) (sym (same_led x e)) more)

pub checked_lead : CheckedLead
checked_lead M ok n is t u r c ds x = (checked_leads M ok x, λ one v e. only_end M ok one x e)
