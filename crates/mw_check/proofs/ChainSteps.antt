-- How a chain of items goes on: what comes of the items left comes of all.
use Rattle.std.specs.Prelude.{◌≡◌, ◌≢◌, ℕ, ◌+◌, Bool, true, false, cond, Option, Some, None, refl}
use Rattle.std.proofs.Common.{ap, sym, subst, ◌∙◌, arith, add_assoc, zero-add}
use Rattle.mw_logic.specs.Term.{RawTerm}
use Rattle.mw_logic.specs.Signature.{Signature}
use Rattle.mw_logic.specs.Accepted.{IsAccepted}
use Rattle.mw_logic.specs.Parts.{nested, IsAdmitted}
use Rattle.mw_logic.specs.NormalForm.{normal_form}
use Rattle.mw_logic.specs.Module.{Module}
use Rattle.mw_canon.specs.Canonical.{IsAdmittedTerm}
use Rattle.mw_deduction.specs.Runs.{Done, Dones}
use Rattle.mw_deduction.specs.Runs as runs
use Rattle.mw_proof.specs.Counting.{capped}
use Rattle.mw_items.specs.Items.{Item, Items, none, more}
use Rattle.mw_verdict.specs.Checks.{Checks, nothing, then, ChecksOne, by_statement, by_row}
use Rattle.mw_verdict.specs.Leads.{LeadsOne, ItemsLead, nowhere, onward}
use Rattle.mw_verdict.proofs.Leading.{checked_lead}
use Rattle.mw_verdict.specs.Verdicts.{Cause, first, later, Refuses, ChainAtFault, at_item, past_limits, by_a_rule, not_normal, stopped}
use Rattle.mw_check.specs.Groups.{counted_both, StopsInItem, AreAtFault, AreCounted, AreCountedSoFar, LeadsOn}
use Rattle.mw_check.proofs.ChainEntries.{IsNoRule}

-- counts that are capped
pub capped_sum : (k j c d : ℕ) → k ≡ capped c → j ≡ capped d → capped (k + j) ≡ capped (c + d)
capped_sum k j c d e f = omega (arith, e, f)

module _ (M : Module) (most n : ℕ) where
  abbrev sig : Signature
  sig = M.signature

  -- behind an item that leads on
  module _ (i : Item) (is : Items) (t v : RawTerm) (x : LeadsOne M i t v) (v_is : IsAdmittedTerm sig v) where
    fault_behind : (m : RawTerm) → normal_form sig m ≡ v → ChainAtFault M most n m is → (l : RawTerm) → normal_form sig l ≡ t → ChainAtFault M most n l (more i is)
    fault_behind m e (at_item {v = u} {before = before} s y f z) l h =
        at_item (later s) (subst (λ w. ItemsLead M (more i before) w u) (sym h) (onward x (subst (λ w. ItemsLead M before w u) e y))) f z
    fault_behind m e (past_limits {v = u} {before = before} s y o a) l h =
        past_limits (later s) (subst (λ w. ItemsLead M (more i before) w u) (sym h) (onward x (subst (λ w. ItemsLead M before w u) e y))) o a
    fault_behind m e (by_a_rule s there rule) l h = by_a_rule (later s) there rule
    fault_behind m e (not_normal {a = a} y r) l h = not_normal (subst (λ w. ItemsLead M (more i is) w a) (sym h) (onward x (subst (λ w. ItemsLead M is w a) e y))) r

    behind_fault : AreAtFault M most n v is → AreAtFault M most n t (more i is)
    behind_fault f l h = fault_behind (nested sig v) v_is.canonical (f (nested sig v) v_is.canonical) l h

    behind_stop : StopsInItem M most n v is → StopsInItem M most n t (more i is)
    behind_stop s = record { before = more i s.before; rest = s.rest; item = s.item; at = s.at; splits = later s.splits; leads = onward x s.leads; stops = s.stops }

    -- it may have stopped
    pub stopped_on : Refuses M most n i t stopped → LeadsOn M most n t (more i is) v is None
    stopped_on f = record {
      faults = behind_fault;
      leads = λ u. onward x;
      stops = behind_stop;
      counted = record { before = none; rest = is; item = i; at = t; splits = first; leads = nowhere; stops = f };
    }

    -- or it checks
    pub checked_on : (k c : ℕ) (d : Done) → ChecksOne M n i t v 0 c d → k ≡ capped c → LeadsOn M most n t (more i is) v is (Some k)
    checked_on k c d y e = record {
      faults = behind_fault;
      leads = λ u. onward x;
      stops = behind_stop;
      counted = (c, e, λ u b ds z. (runs.more d ds, subst (λ r. Checks M n (more i is) t u r (c + b) (runs.more d ds)) (zero-add 0) (then y v_is.admitted z)));
    }

  -- nothing was done yet
  pub begun : (t : RawTerm) (items : Items) → LeadsOn M most n t items t items (Some 0)
  begun t items = record {
    faults = λ f. f;
    leads = λ u x. x;
    stops = λ s. s;
    counted = (0, refl, λ u c ds x. (ds, subst (λ b. Checks M n items t u 0 b ds) (sym (zero-add c)) x));
  }

  -- one way and then another
  pub led_on : (t v w : RawTerm) (items is js : Items) (a b : Option ℕ) → LeadsOn M most n t items v is a → LeadsOn M most n v is w js b → LeadsOn M most n t items w js (counted_both a b)
  led_on t v w items is js a b x y = record {
    faults = λ f. x.faults (y.faults f);
    leads = λ u z. x.leads u (y.leads u z);
    stops = λ s. x.stops (y.stops s);
    counted = both a b x.counted y.counted;
  }
    where
      both : (a b : Option ℕ) → AreCountedSoFar M most n t items v is a → AreCountedSoFar M most n v is w js b → AreCountedSoFar M most n t items w js (counted_both a b)
      both None b p q = p
      both (Some k) None p q = x.stops q
      both (Some k) (Some j) (c, e, f) (d, g, h) = (
        c + d,
        capped_sum k j c d e g,
        λ u z ds r. let (es, s) = h u z ds r in let (fs, m) = f u (d + z) es s in (fs, subst (λ o. Checks M n items t u 0 o fs) (sym (add_assoc c d z)) m),
      )

  -- at the end
  pub led_over : (t u : RawTerm) (items : Items) (count : Option ℕ) → LeadsOn M most n t items u none count → ItemsLead M items t u × AreCounted M most n t items u count
  led_over t u items count x = (x.leads u nowhere, by_count count x.counted)
    where
      by_count : (count : Option ℕ) → AreCountedSoFar M most n t items u none count → AreCounted M most n t items u count
      by_count None s = s
      by_count (Some k) (d, e, f) = let (es, y) = f u 0 runs.none nothing in (d + 0, es, y, e ∙ ap capped (omega arith))

  -- an item at fault
  pub fault_first : (i : Item) (is : Items) (t : RawTerm) (c : Cause) → Refuses M most n i t c → c ≢ stopped → AreAtFault M most n t (more i is)
  fault_first i is t c f z l e = at_item first (subst (λ w. ItemsLead M none w t) (sym e) nowhere) f z

  pub limit_first : (i : Item) (is : Items) (t v : RawTerm) → LeadsOne M i t v → ¬ IsAdmitted sig (nested sig v) → AreAtFault M most n t (more i is)
  limit_first i is t v x a l e = past_limits first (subst (λ w. ItemsLead M none w t) (sym e) nowhere) x a

  -- an item that isn't a rule's counts none
  pub no_rule_counts : {r c : ℕ} {i : Item} {t v : RawTerm} {d : Done} → ChecksOne M n i t v r c d → IsNoRule M i → r ≡ 0
  no_rule_counts (by_statement h sorted bound there some plain shown) f = by_rule h.statement.rule refl
    where
      by_rule : (b : Bool) → h.statement.rule ≡ b → ◌≡◌ {A = ℕ} (cond b 1 0) 0
      by_rule true e = absurd (f (h.statement, h.is_there, e))
      by_rule false e = refl
  no_rule_counts (by_row h some) f = refl

-- an item that checks leads
pub leads_one : (M : Module) → IsAccepted M.signature → {n r c : ℕ} {i : Item} {t v : RawTerm} {d : Done} → ChecksOne M n i t v r c d → IsAdmittedTerm M.signature v → LeadsOne M i t v
leads_one M ok {n} {r} {c} {i} {t} {v} {d} x a = first_led ((checked_lead M ok n (more i none) t v (r + 0) (c + 0) (runs.more d runs.none) (then x a.admitted nothing)).0)
  where
    first_led : ItemsLead M (more i none) t v → LeadsOne M i t v
    first_led (onward y nowhere) = y
