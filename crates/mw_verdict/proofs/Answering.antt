-- Answers no by causes that exclude one another, and what is checked, are one.
use Rattle.std.specs.Prelude.{◌≡◌, ℕ, suc, refl}
use Rattle.std.proofs.Common.{ap, sym, subst}
use Rattle.mw_logic.specs.Term.{RawTerm}
use Rattle.mw_logic.specs.Module.{Module}
use Rattle.mw_logic.specs.Parts.{nested, IsAdmitted}
use Rattle.mw_deduction.specs.Runs.{Done, Dones}
use Rattle.mw_items.specs.Items.{Item, Items}
use Rattle.mw_verdict.specs.Checks.{Checks, nothing, then, ChecksOne}
use Rattle.mw_verdict.specs.Verdicts.{Cause, Splits, first, later, number_of, Refuses, IsYes, IsNo, in_item, at_end}
use Rattle.mw_verdict.specs.Exclusion.{HasOneRow, IsChecked, OneCauseOf, NoneChecked, OneAnswerOf}
use Rattle.mw_verdict.proofs.Same.{same_one, same_end}

passed : {M : Module} {n r c : ℕ} {i : Item} {t v : RawTerm} {x : Done} → ChecksOne M n i t v r c x → IsAdmitted M.signature (nested M.signature v) → IsChecked M n i t
passed {r = r} {c = c} {v = v} {x = x} y a = record { next = v; rules = r; count = c; done = x; checks = y; admitted = a }

module _ (M : Module) (one : HasOneRow M) where
  -- of items that are checked each is, at the term to which those before it lead
  pub found : {n : ℕ} {before rest items : Items} {i : Item} {t u v : RawTerm} {r c q d : ℕ} {ds es : Dones} → Splits before i rest items → Checks M n items t u r c ds → Checks M n before t v q d es → IsChecked M n i v
  found first (then x a rest) nothing = passed x a
  found {n} (later {before = before} s) (then x a rest) (then {r = r} {d = d} {u = u} {ds = ds} y b more) =
      found s rest (subst (λ v. Checks M n before v u r d ds) (sym (same_one M one x y).0) more)

  module _ (most : ℕ) (P : Cause → Type 0) (unchecked : NoneChecked P M most 63) (one_cause : OneCauseOf P M most 63) where
    agree : {b a b' a' items : Items} {i j : Item} {t v w : RawTerm} {x y : Cause} {r c q d : ℕ} {ds es : Dones} → Splits b i a items → Checks M 63 b t v r c ds → Refuses M most 63 i v x → P x
        → Splits b' j a' items → Checks M 63 b' t w q d es → Refuses M most 63 j w y → P y → (number_of b ≡ number_of b') × (x ≡ y)
    agree {i = i} {t = t} {x = x} {y = y} first nothing f p first nothing g q = (refl, one_cause i t x y p q f g)
    agree {i = i} {t = t} {x = x} first nothing f p (later s) (then z a rest) g q = absurd (unchecked i t x p f (passed z a))
    agree {j = j} {t = t} {y = y} (later s) (then z a rest) f p first nothing g q = absurd (unchecked j t y q g (passed z a))
    agree (later s) (then x a rest) f p (later {before = b} s') (then {r = r} {d = d} {u = u} {ds = ds} y e more) g q =
        let (m, z) = agree s rest f p s' (subst (λ v. Checks M 63 b v u r d ds) (sym (same_one M one x y).0) more) g q in
        (ap suc m, z)

    both : {from to : RawTerm} {items : Items} {j k : ℕ} {c d : Cause} → P c → IsNo M most from to items j c → P d → IsNo M most from to items k d → (j ≡ k) × (c ≡ d)
    both p (in_item s x f) q (in_item s' y g) = let (m, z) = agree s x f p s' y g q in (ap suc m, z)
    both {c = c} p (in_item {i = i} {v = v} s x f) q (at_end y e) = absurd (unchecked i v c p f (found s y x))
    both {d = d} p (at_end y e) q (in_item {i = i} {v = v} s x f) = absurd (unchecked i v d q f (found s y x))
    both p (at_end x e) q (at_end y f) = (refl, refl)

    not_yes : {from to : RawTerm} {items : Items} {j : ℕ} {c : Cause} → P c → IsNo M most from to items j c → (count : ℕ) → ¬ IsYes M most from to items count
    not_yes {c = c} p (in_item {i = i} {v = v} s x f) count h = unchecked i v c p f (found s h.checks x)
    not_yes p (at_end x e) count h = e (same_end M one x h.checks).0

    pub answers : OneAnswerOf P M most
    answers from to items j c p x = ((λ k d q y. both p x q y), not_yes p x)
