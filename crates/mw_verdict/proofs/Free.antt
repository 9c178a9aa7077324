-- Items that pass are answered yes, and never no, where each is without evidence.
use Rattle.std.specs.Prelude.{◌≡◌, ◌⊎◌, ℕ, [], IsTrue, refl, codes}
use Rattle.std.proofs.Common.{sym, subst, inl, inr}
use Rattle.mw_logic.specs.Term.{RawTerm, binary}
use Rattle.mw_logic.specs.Axioms.{EqualModulo}
use Rattle.mw_logic.specs.Accepted.{IsAccepted}
use Rattle.mw_logic.specs.Signature.{Signature}
use Rattle.mw_logic.specs.Substitution.{Substitution}
use Rattle.mw_logic.specs.NormalForm.{normal_form}
use Rattle.mw_logic.specs.Judgements.{IsNormal}
use Rattle.mw_logic.specs.Module.{Module, IsPolymorphic, Row, arithmetic, equal_terms, unequal_terms, not_different, different, if_true, if_false}
use Rattle.mw_deduction.specs.Runs as runs
use Rattle.mw_items.specs.Items.{Item, Items, Groups, end}
use Rattle.mw_prooftext.specs.Passing.{Passes}
use Rattle.mw_prooftext.specs.Passing as passing
use Rattle.mw_verdict.specs.Checks.{IsFormOf, nothing, then, by_statement, by_row, Shown, unconditional}
use Rattle.mw_verdict.specs.Leads.{a_step, a_row, ItemsLead, nowhere, onward}
use Rattle.mw_verdict.specs.Verdicts.{Cause, Splits, first, later, Refuses, condition_fails, sides_not_normal, condition_stops, sides_stop, AtFault, a_chain, StopsIn, a_side, an_item, an_end, IsYes, IsNo, in_item, at_end}
use Rattle.mw_verdict.specs.Exclusion.{IsCertain}
use Rattle.mw_verdict.specs.Written.{IsFree, AreFree, FreeAnswered}
use Rattle.mw_verdict.proofs.Conditions.{no_group}
use Rattle.mw_verdict.proofs.Leading.{computed, checked_leads}
use Rattle.mw_verdict.proofs.Same.{named}
use Rattle.mw_verdict.proofs.Passing.{passing_answered}

-- the form is no test of terms that differ
abbrev IsAgreeing : Signature → RawTerm → Type 0
IsAgreeing sig form = (f : ℕ) (a b : RawTerm) → form ≡ binary f a b → IsPolymorphic sig f (codes "_==_") ⊎ IsPolymorphic sig f (codes "_=/=_") → EqualModulo sig a b

-- so it meets its row whichever terms are taken as normal
any_row : {sig : Signature} {P Q : RawTerm → Type 0} {form result : RawTerm} → IsAgreeing sig form → Row sig P form result → Row sig Q form result
any_row h (arithmetic b p d) = arithmetic b p d
any_row h (equal_terms p q t) = equal_terms p q t
any_row h (unequal_terms {f} {u} {v} p l m q t) = absurd (q (h f u v refl (inl p)))
any_row h (not_different p q t) = not_different p q t
any_row h (different {f} {u} {v} p l m q t) = absurd (q (h f u v refl (inr p)))
any_row h (if_true p t) = if_true p t
any_row h (if_false p t) = if_false p t

module _ (M : Module) where
  abbrev sig : Signature
  sig = M.signature

  -- an item is where those before it lead
  found_free : {before rest items : Items} {i : Item} {t v : RawTerm} → Splits before i rest items → ItemsLead M before t v → AreFree M items t → IsFree M i v
  found_free first nowhere free = free.0
  found_free (later s) (onward one rest) free = found_free s rest (free.1 _ one)

  module _ (most : ℕ) where
    -- what has no condition is at fault for none, and no test stops in it
    none_at_fault : {n : ℕ} {s : Substitution} {gs : Groups} → AtFault M most n [] s gs → ⊥
    none_at_fault (a_chain g admitted fault) = no_group g

    none_stops : {n : ℕ} {s : Substitution} {gs : Groups} → StopsIn M most n [] s gs → ⊥
    none_stops (a_side g why stops) = no_group g
    none_stops (an_item g s leads stops) = no_group g
    none_stops (an_end g leads stops) = no_group g

    -- so an item without evidence is answered no for a certain cause alone
    certain_of_free : {n : ℕ} {i : Item} {t : RawTerm} {c : Cause} → IsFree M i t → Refuses M most n i t c → IsCertain c
    certain_of_free {n} free (condition_fails {gs = gs} h s p l f) = absurd (none_at_fault (subst (λ C. AtFault M most n C h.subst gs) (free.2 h.statement h.is_there) f))
    certain_of_free {n} free (condition_stops {gs = gs} h s p l f) = absurd (none_stops (subst (λ C. StopsIn M most n C h.subst gs) (free.2 h.statement h.is_there) f))
    certain_of_free free (sides_not_normal {w = w} {form = form} {result = result} q l h r g) =
        absurd (g form result h (any_row (λ f a b e test. free f w a b q (subst (IsFormOf sig w) e h) test) r))
    certain_of_free free (sides_stop {f = f} {w = w} {a = a} {b = b} q l h r test d g) = absurd (d (free f w a b q h test))
    certain_of_free free f = ((λ e. cc), (λ e. cc))

    module _ (ok : IsAccepted M.signature) where
      -- those that pass are answered yes
      yes : {n : ℕ} {items : Items} {t u : RawTerm} → Passes M n items t u → AreFree M items t → (count : ℕ) × IsYes M most t u items count
      yes passing.nothing free = (0, record { rules = 0; run = runs.none; checks = nothing })
      yes {t = t} (passing.then (passing.a_row {at = at} h some) a rest) (free, on) =
          let (k, R) = yes rest (on _ (a_row (computed M ok h))) in
          let form : IsFormOf sig (normal_form sig h.form) h.form = record { raw = h.raw; clean = h.clean; is = refl } in
          let row : Row sig (IsNormal M 63) h.form h.result =
          any_row (λ f a b e test. free f (normal_form sig h.form) a b h.replaces.part (subst (IsFormOf sig (normal_form sig h.form)) e form) test) h.row
          in
          (_, record { rules = _; run = _; checks = then (by_row (record { form = h.form; result = h.result; row = row; raw = h.raw; clean = h.clean; replaces = h.replaces }) some) a R.checks })
      yes (passing.then (passing.a_statement {gs = gs} h sorted bound some groups) a rest) ((ordinary, ended, without), on) =
          let (k, R) = yes rest (on _ (a_step h)) in
          let kind = h.kind in
          let plain : ¬ IsTrue h.statement.owise = λ o. cc in
          let shown : Shown M 63 h.statement.fragments h.subst gs runs.end 0 =
          subst (λ gs. Shown M 63 h.statement.fragments h.subst gs runs.end 0) (sym ended) (subst (λ C. Shown M 63 C h.subst end runs.end 0) (sym (without h.statement h.is_there)) unconditional)
          in
          (_, record { rules = _; run = _; checks = then (by_statement (named h) sorted bound h.replaces some (λ o. absurd (plain o)) shown) a R.checks })

      certain_of_no : {items : Items} {from to : RawTerm} {j : ℕ} {c : Cause} → AreFree M items from → IsNo M most from to items j c → IsCertain c
      certain_of_no free (in_item s x f) = certain_of_free (found_free s (checked_leads M ok x) free) f
      certain_of_no free (at_end x e) = ((λ e. cc), (λ e. cc))

pub free_answered : FreeAnswered
free_answered M ok one most n items from to p free = (yes M most ok p free, λ j c x. passing_answered M ok one most n items from to p j c (certain_of_no M most ok free x) x)
