-- Items that pass all tests but those of conditions are answered no for a condition or a stop alone.
use Rattle.std.specs.Prelude.{◌≡◌, ℕ, refl}
use Rattle.std.proofs.Common.{sym, subst}
use Rattle.mw_logic.specs.Term.{RawTerm}
use Rattle.mw_logic.specs.Accepted.{IsAccepted}
use Rattle.mw_logic.specs.Signature.{Signature}
use Rattle.mw_logic.specs.Parts.{nested, IsAdmitted}
use Rattle.mw_logic.specs.NormalForm.{normal_form}
use Rattle.mw_logic.specs.Module.{Module}
use Rattle.mw_logic.proofs.Ranks.{row_within}
use Rattle.mw_deduction.specs.Runs.{Dones}
use Rattle.mw_items.specs.Items.{Item, Items}
use Rattle.mw_prooftext.specs.Passing.{PassesOne, Passes}
use Rattle.mw_prooftext.specs.Passing as passing
use Rattle.mw_verdict.specs.Checks.{Checks, nothing, then}
use Rattle.mw_verdict.specs.Leads.{LeadsOne, a_step, a_row, ItemsLead, nowhere, onward}
use Rattle.mw_verdict.specs.Verdicts.{Cause, Splits, first, later, Refuses, statement_missing, row_missing, value_ill_sorted, part_missing, spot_missing, condition_fails, sides_not_normal, condition_stops, sides_stop, next_past_limit, IsNo, in_item, at_end}
use Rattle.mw_verdict.specs.Exclusion.{HasOneRow, IsCertain}
use Rattle.mw_verdict.specs.Written.{PassingAnswered}
use Rattle.mw_verdict.proofs.Same.{alike, named}
use Rattle.mw_verdict.proofs.Leading.{computed, same_led, only_end}
use Rattle.mw_verdict.proofs.Excluding.{Sorted, There, row_form}

module _ (M : Module) (ok : IsAccepted M.signature) where
  abbrev sig : Signature
  sig = M.signature

  -- items that pass lead to their last term
  passing_leads_one : {n : ℕ} {i : Item} {t v : RawTerm} → PassesOne M n i t v → LeadsOne M i t v
  passing_leads_one (passing.a_statement h sorted bound some groups) = a_step h
  passing_leads_one (passing.a_row h some) = a_row (computed M ok h)

  passing_leads : {n : ℕ} {is : Items} {t u : RawTerm} → Passes M n is t u → ItemsLead M is t u
  passing_leads passing.nothing = nowhere
  passing_leads (passing.then x a rest) = onward (passing_leads_one x) (passing_leads rest)

  module _ (one : HasOneRow M) where
    -- each of them passes where those before it lead, if these are checked
    found_passing : {n m : ℕ} {before rest items : Items} {i : Item} {t u v : RawTerm} {r c : ℕ} {ds : Dones} → Splits before i rest items → Passes M n items t u → Checks M m before t v r c ds
        → (w : RawTerm) × PassesOne M n i v w × IsAdmitted sig (nested sig w)
    found_passing first (passing.then {v = w} x a rest) nothing = (w, x, a)
    found_passing {m = m} (later {before = before} s) (passing.then x a rest) (then {r = r} {d = d} {u = u} {ds = ds} y b more) =
        found_passing s rest (subst (λ v. Checks M m before v u r d ds) (same_led M ok one y (passing_leads_one x)) more)

    -- and if all are, they lead to the last term
    passing_end : {n m : ℕ} {items : Items} {t u v : RawTerm} {r c : ℕ} {ds : Dones} → Passes M n items t u → Checks M m items t v r c ds → v ≡ u
    passing_end p x = only_end M ok one x (passing_leads p)

    -- an item that passes is not at fault for such a cause
    certain_passing : {most n m : ℕ} {i : Item} {t v : RawTerm} {c : Cause} → IsCertain c → Refuses M most m i t c → PassesOne M n i t v → IsAdmitted sig (nested sig v) → ⊥
    certain_passing z (statement_missing f) (passing.a_statement h s b m g) a = f h.statement h.is_there h.kind
    certain_passing z (row_missing p m f) (passing.a_row h l) a = f h.form h.result (row_form M p h) (row_within (λ v n. tt) h.row)
    certain_passing z (value_ill_sorted e f) (passing.a_statement h s b m g) a = f (alike (named h) e (Sorted M) s)
    certain_passing z (part_missing {at = at} {t = t} e r f) (passing.a_statement {v = v} h s b m g) a = f v (alike (named h) e (There M at t v) h.replaces, m)
    certain_passing z (spot_missing f) (passing.a_row h l) a = f (normal_form sig h.form) (h.replaces.part, l)
    certain_passing z (condition_fails e r p m f) y a = z.0 refl
    certain_passing z (sides_not_normal q m h r g) y a = z.0 refl
    certain_passing z (condition_stops e r p m f) y a = z.1 refl
    certain_passing z (sides_stop q m h r b d g) y a = z.1 refl
    certain_passing z (next_past_limit x f) y a = f (subst (λ u. IsAdmitted sig (nested sig u)) (sym (same_led M ok one x (passing_leads_one y))) a)

    certainly : {most n : ℕ} {items : Items} {from to : RawTerm} {j : ℕ} {c : Cause} → IsCertain c → Passes M n items from to → IsNo M most from to items j c → ⊥
    certainly z p (in_item s x f) = let (w, y, a) = found_passing s p x in certain_passing z f y a
    certainly z p (at_end x e) = e (passing_end p x)

pub passing_answered : PassingAnswered
passing_answered M ok one most n items from to p j c z x = certainly M ok one z p x
