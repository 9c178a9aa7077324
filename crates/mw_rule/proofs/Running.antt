-- From one rule to the next: how a rewriting ends, and what it leaves.
use Rattle.std.specs.Prelude.{◌≡◌, ◌≢◌, ◌<◌, ◌≤◌, ◌+◌, ◌-◌, ℕ, zero, suc, Bool, true, false, Option, None, Some, option_map, unwrap_or, refl}
use Rattle.std.proofs.Common.{sym, subst, ap, ◌∙◌, arith, true≢false, inl, inr}
use Rattle.mw_logic.specs.Term.{RawTerm}
use Rattle.mw_logic.specs.Signature.{Signature}
use Rattle.mw_logic.specs.Module.{Module}
use Rattle.mw_canon.specs.Canonical.{IsAdmittedTerm}
use Rattle.mw_least.specs.Workable.{IsWorkable}
use Rattle.mw_proof.specs.Deductions.{IsKept, deduced}
use Rattle.mw_proof.specs.declared.reason.Reason.{Reason}
use Rattle.mw_proof.specs.declared.reason.Reason.TheVariants as reason
use Rattle.mw_frames.specs.State.{Run, with_rules, Data, IsRun, Holds}
use Rattle.mw_frames.specs.Steps.{IsEnd}
use Rattle.mw_frames.specs.Machines.{data_of}
use Rattle.mw_frames.specs.declared.job.Job.TheVariants.{Walk}
use Rattle.mw_frames.specs.declared.job.Hand.TheVariants.{One}
use Rattle.mw_frames.specs.declared.machine.Machine.{Machine}
use Rattle.mw_reduce.specs.Evaluations.{run_of, nothing}
use Rattle.mw_reduce.specs.Driven.{EndsAt, EndsBy, IsDriven}
use Rattle.mw_reduce.specs.declared.drive.End.{End}
use Rattle.mw_reduce.specs.declared.drive.Driven.{Driven}
use Rattle.mw_reduce.specs.declared.drive.Outcome.{Outcome}
use Rattle.mw_reduce.specs.declared.drive.Outcome.TheVariants.{Done, Stopped}
use Rattle.mw_reduce.proofs.Reduced.{is_run, begins_run}
use Rattle.mw_rule.specs.Rewritings.{IsRewritingOf}
use Rattle.mw_rule.specs.Stepped.{EndsByRules, by_equations, by_bound, by_rules, IsWithinBound, IsRewrittenBy}
use Rattle.mw_rule.specs.declared.rewriting.Bounds.{Bounds}
use Rattle.mw_rule.proofs.Outcomes.{rewriting_from}

abbrev is_done : Outcome → Bool
is_done Done = true
is_done (Stopped why) = false

not_both : (o : Outcome) (why : Reason) → o ≡ Done → o ≡ Stopped why → ⊥
not_both o why a b = true≢false (ap is_done (sym a ∙ b))

abbrev is_some : Option ℕ → Bool
is_some None = false
is_some (Some n) = true

pub none_left : (bound : Option ℕ) → bound ≡ None → bound ≡ Some 0 → ⊥
none_left bound a b = true≢false (ap is_some (sym b ∙ a))

pub so_many_left : (bound : Option ℕ) (n : ℕ) → bound ≡ Some n → bound ≡ Some 0 → n ≡ 0
so_many_left bound n a b = ap (λ o. unwrap_or o 0) (sym a ∙ b)

-- at the beginning all are left
pub bound_from : (r : ℕ) (most : Option ℕ) → r ≡ 0 → option_map (λ n. n + r) most ≡ most
bound_from r None z = refl
bound_from r (Some n) z =
    let e : n + r ≡ n = omega (arith, z) in
    ap Some e

-- one rule more was applied, and one less is left
pub bound_after : (bound : Option ℕ) (r : ℕ) → (bound ≡ Some 0 → ⊥) → option_map (λ n. n + suc r) (option_map (λ n. n - 1) bound) ≡ option_map (λ n. n + r) bound
bound_after None r n = refl
bound_after (Some zero) r n = absurd (n refl)
bound_after (Some (suc k)) r n =
    let e : (suc k - 1) + suc r ≡ suc k + r = omega arith in
    ap Some e

-- as long as some are left, they aren't as many as the bound
pub not_reached : (bound : Option ℕ) (r : ℕ) (most : Option ℕ) → option_map (λ n. n + r) bound ≡ most → (bound ≡ Some 0 → ⊥) → Some r ≢ most
not_reached None r most e n f = true≢false (ap is_some (f ∙ sym e))
not_reached (Some zero) r most e n f = absurd (n refl)
not_reached (Some (suc k)) r most e n f =
    let z : r ≡ suc k + r = ap (λ o. unwrap_or o 0) (f ∙ sym e) in
    omega (arith, z)

-- so many were applied, and so many are left of the bound: no more than it says
pub keeps_bound : (bound : Option ℕ) (r : ℕ) (most : Option ℕ) → option_map (λ n. n + r) bound ≡ most → (n : ℕ) → most ≡ Some n → r ≤ n
keeps_bound None r most e n f = absurd (true≢false (ap is_some (sym f ∙ sym e)))
keeps_bound (Some k) r most e n f =
    let z : k + r ≡ n = ap (λ o. unwrap_or o 0) (e ∙ f) in
    omega (arith, z)

-- it is a run whatever it counts
pub run_with : (K : Run) (sig : Signature) (r : ℕ) → IsRun K sig → IsRun (with_rules r K) sig
run_with K sig r x = record { signature = x.signature; accepted = x.accepted; sorted = x.sorted; well = x.well; start = x.start }

-- Where r rules and so many steps were made, a reduction was driven on.
module _ (K : Run) (b : Bounds) (r count left : ℕ) (within : IsWithinBound r b) (d : Data) (x : Driven) (sum : count + left ≡ b.steps) (h : IsDriven (with_rules r K) (count + left) b.side d x) where
  so : EndsBy (with_rules r K) b.steps b.side h.0 d x.end
  so = subst (λ m. EndsBy (with_rules r K) m b.side h.0 d x.end) sum h.2

  -- it stops there
  pub ends_before : (x.end.outcome ≡ Done → ⊥) → IsRewrittenBy K b d x.end
  ends_before n = (r, h.0, within, by_equations so n)

  -- or the whole is normal
  pub at_end : x.end.outcome ≡ Done → (h.0 < b.steps) × IsEnd (with_rules r K) h.0 d x.end.term
  at_end is = by_case so
    where
      by_case : EndsBy (with_rules r K) b.steps b.side h.0 d x.end → (h.0 < b.steps) × IsEnd (with_rules r K) h.0 d x.end.term
      by_case (inl (l, z)) = (l, subst (EndsAt (with_rules r K) h.0 b.side d x.end.term) is z)
      by_case (inr (e, stops, w)) = absurd (not_both x.end.outcome reason.Rewrites is stops)

  -- and the bound is reached
  pub ends_at_bound : x.end.outcome ≡ Done → Some r ≡ b.rules → IsRewrittenBy K b d (record { term = x.end.term; outcome = Stopped reason.Rules })
  ends_at_bound is full = (r, h.0, within, by_bound (at_end is).1 (at_end is).0 full refl)

  -- or rules end it
  pub ends_by_rules : x.end.outcome ≡ Done → Some r ≢ b.rules → (now : Data) (e : End) → EndsByRules (with_rules r K) h.0 b.side now e → IsRewrittenBy K b now e
  ends_by_rules is n now e z = (r, h.0, within, by_rules (at_end is).0 n z)

  -- or one was applied, and a step less is left
  pub one_more : x.end.outcome ≡ Done → (suc h.0) + (x.left - 1) ≡ b.steps
  one_more is = let l = (at_end is).0 in let s = h.1 in omega (arith, sum, l, s)

-- the deduction that a rewriting leaves, from a machine where nothing is under way
pub rewritten_from : (M : Module) → IsWorkable M → (b : Bounds) → (t : RawTerm) → IsAdmittedTerm M.signature t
    → (first : Machine) → ((N : Module) → data_of N first ≡ nothing) → (last : Machine) (e : End)
    → ((K : Run) → IsRun K M.signature → K.over ≡ M → K.rank ≡ 63 → K.rules ≡ 0 → Holds K 0 (data_of K.over first) (One (Walk t)) → IsRewrittenBy K b (data_of K.over last) e)
    → IsKept M 63 t e.term last.kept × IsRewritingOf M t b (deduced M 63 t e.term last.kept) e.outcome
rewritten_from M w b t admitted first empty last e ran =
    rewriting_from M w b t admitted last.kept (data_of M last) e refl (ran (run_of M 63 t) (is_run M w 63 t admitted) refl refl refl (begins_run M w 63 t admitted first empty))
