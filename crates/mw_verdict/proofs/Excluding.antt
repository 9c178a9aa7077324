-- Which causes exclude one another, and what is checked.
use Rattle.std.specs.Prelude.{◌≡◌, ℕ, refl}
use Rattle.std.proofs.Common.{sym, subst, ◌∙◌}
use Rattle.mw_logic.specs.Term.{RawTerm}
use Rattle.mw_logic.specs.Signature.{Signature}
use Rattle.mw_logic.specs.Substitution.{Substitution, instance, IsSubstitution}
use Rattle.mw_logic.specs.Parts.{nested, IsAdmitted}
use Rattle.mw_logic.specs.NormalForm.{normal_form}
use Rattle.mw_logic.specs.Module.{Module, Statement}
use Rattle.mw_logic.proofs.Ranks.{row_within}
use Rattle.mw_deduction.specs.Runs.{Done}
use Rattle.mw_redex.specs.Replaced.{IsPartAt}
use Rattle.mw_items.specs.Items.{Spot, Item}
use Rattle.mw_prooftext.specs.Tells.{ReplacesSpot}
use Rattle.mw_prooftext.specs.Passing.{IsRow}
use Rattle.mw_verdict.specs.Checks.{IsFormOf, ChecksOne, by_statement, by_row}
use Rattle.mw_verdict.specs.Verdicts.{Cause, past_limit, Refuses, statement_missing, row_missing, value_ill_sorted, part_missing, spot_missing, condition_fails, sides_not_normal, condition_stops, sides_stop, next_past_limit}
use Rattle.mw_verdict.specs.Exclusion.{HasOneRow, IsCertain, IsEarly}
use Rattle.mw_verdict.proofs.Same.{one_part, alike, same_one}

module _ (M : Module) where
  abbrev sig : Signature
  sig = M.signature

  -- the values are of their variables' sorts; the statement replaces there
  abbrev pub Sorted : Statement → Substitution → Type 0
  Sorted st s = IsSubstitution sig s

  abbrev pub There : Spot → RawTerm → RawTerm → Statement → Substitution → Type 0
  There at t v st s = ReplacesSpot sig st.rule (instance s st.left) (instance s st.right) at t v

  -- a form of the part, which is one
  pub row_form : {n : ℕ} {at : Spot} {t v w : RawTerm} → IsPartAt sig at.path at.take t w → (h : IsRow M n at t v) → IsFormOf sig w h.form
  row_form {at = at} {t = t} {w = w} p h = record { raw = h.raw; clean = h.clean; is = one_part sig at.path at.take t (normal_form sig h.form) w h.replaces.part p }

  form_there : {at : Spot} {t w u form : RawTerm} → IsPartAt sig at.path at.take t w → IsPartAt sig at.path at.take t u → IsFormOf sig u form → IsFormOf sig w form
  form_there {at} {t} {w} {u} p q h = record { raw = h.raw; clean = h.clean; is = h.is ∙ one_part sig at.path at.take t u w q p }

  module _ (most : ℕ) where
    pub early : {n : ℕ} {i : Item} {t : RawTerm} {c d : Cause} → IsEarly c → Refuses M most n i t c → Refuses M most n i t d → c ≡ d
    early z (statement_missing f) (statement_missing g) = refl
    early z (statement_missing f) (value_ill_sorted h g) = absurd (f h.statement h.is_there h.kind)
    early z (statement_missing f) (part_missing h s g) = absurd (f h.statement h.is_there h.kind)
    early z (statement_missing f) (condition_fails h s p m g) = absurd (f h.statement h.is_there h.kind)
    early z (statement_missing f) (condition_stops h s p m g) = absurd (f h.statement h.is_there h.kind)
    early z (statement_missing f) (next_past_limit (by_statement h s b p m o g) a) = absurd (f h.statement h.is_there h.kind)
    early z (value_ill_sorted e f) (statement_missing g) = absurd (g e.statement e.is_there e.kind)
    early z (value_ill_sorted e f) (value_ill_sorted h g) = refl
    early z (value_ill_sorted e f) (part_missing h s g) = absurd (f (alike h e Sorted s))
    early z (value_ill_sorted e f) (condition_fails h s p m g) = absurd (f (alike h e Sorted s))
    early z (value_ill_sorted e f) (condition_stops h s p m g) = absurd (f (alike h e Sorted s))
    early z (value_ill_sorted e f) (next_past_limit (by_statement h s b p m o g) a) = absurd (f (alike h e Sorted s))
    early z (part_missing e r f) (statement_missing g) = absurd (g e.statement e.is_there e.kind)
    early z (part_missing e r f) (value_ill_sorted h g) = absurd (g (alike e h Sorted r))
    early z (part_missing e r f) (part_missing h s g) = refl
    early z (part_missing {at = at} {t = t} e r f) (condition_fails {v = v} h s p m g) = absurd (f v (alike h e (There at t v) p, m))
    early z (part_missing {at = at} {t = t} e r f) (condition_stops {v = v} h s p m g) = absurd (f v (alike h e (There at t v) p, m))
    early z (part_missing {at = at} {t = t} e r f) (next_past_limit (by_statement {v = v} h s b p m o g) a) = absurd (f v (alike h e (There at t v) p, m))
    early z (row_missing p m f) (row_missing q l g) = refl
    early z (row_missing {w = w} p m f) (spot_missing g) = absurd (g w (p, m))
    early z (row_missing p m f) (sides_not_normal {form = form} {result = result} q l h r g) = absurd (f form result (form_there p q h) r)
    early z (row_missing p m f) (sides_stop {result = result} q l h r b d g) = absurd (f _ result (form_there p q h) r)
    early z (row_missing p m f) (next_past_limit (by_row h l) a) = absurd (f h.form h.result (row_form p h) (row_within (λ v n. tt) h.row))
    early z (spot_missing f) (row_missing {w = w} q m g) = absurd (f w (q, m))
    early z (spot_missing f) (spot_missing g) = refl
    early z (spot_missing f) (sides_not_normal {w = w} q m h r g) = absurd (f w (q, m))
    early z (spot_missing f) (sides_stop {w = w} q m h r b d g) = absurd (f w (q, m))
    early z (spot_missing f) (next_past_limit (by_row h l) a) = absurd (f (normal_form sig h.form) (h.replaces.part, l))
    early z (condition_fails e r p m f) y = absurd (z.0.0 refl)
    early z (sides_not_normal q m h r g) y = absurd (z.0.0 refl)
    early z (condition_stops e r p m f) y = absurd (z.0.1 refl)
    early z (sides_stop q m h r b d g) y = absurd (z.0.1 refl)
    early z (next_past_limit x a) y = absurd (z.1 refl)

    module _ (one : HasOneRow M) where
      -- where an item is at fault for such a cause, it is not checked; its next term's limits matter only if they are the cause
      pub certain : {i : Item} {t v : RawTerm} {c : Cause} {n r k : ℕ} {x : Done} → IsCertain c → Refuses M most n i t c → ChecksOne M n i t v r k x → (c ≡ past_limit → IsAdmitted sig (nested sig v)) → ⊥
      certain z (statement_missing f) (by_statement h s b p m o g) a = f h.statement h.is_there h.kind
      certain z (row_missing p m f) (by_row h l) a = f h.form h.result (row_form p h) (row_within (λ v n. tt) h.row)
      certain z (value_ill_sorted e f) (by_statement h s b p m o g) a = f (alike h e Sorted s)
      certain z (part_missing {at = at} {t = t} e r f) (by_statement {v = v} h s b p m o g) a = f v (alike h e (There at t v) p, m)
      certain z (spot_missing f) (by_row h l) a = f (normal_form sig h.form) (h.replaces.part, l)
      certain z (condition_fails e r p m f) y a = z.0 refl
      certain z (sides_not_normal q m h r g) y a = z.0 refl
      certain z (condition_stops e r p m f) y a = z.1 refl
      certain z (sides_stop q m h r b d g) y a = z.1 refl
      certain z (next_past_limit x f) y a = f (subst (λ u. IsAdmitted sig (nested sig u)) (sym (same_one M one x y).0) (a refl))
