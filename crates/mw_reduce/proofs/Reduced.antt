-- Where a run begins, and the deduction that it leaves.
use Rattle.std.specs.Prelude.{◌≡◌, ◌≤◌, ◌+◌, ℕ, [], ◌∷◌, refl}
use Rattle.std.proofs.Common.{sym, subst, ap, ◌∙◌, arith, inl, inr}
use Rattle.mw_logic.specs.Term.{RawTerm}
use Rattle.mw_logic.specs.Parts.{nested}
use Rattle.mw_logic.specs.Module.{Module}
use Rattle.mw_logic.specs.Proof.{Proof, rules, steps}
use Rattle.mw_logic.specs.Judgements.{Proves}
use Rattle.mw_logic.proofs.Canonical.{IsCanonical, canonical}
use Rattle.mw_canon.specs.Canonical.{IsAdmittedTerm}
use Rattle.mw_least.specs.Workable.{IsWorkable}
use Rattle.mw_least.proofs.WellFormed.{workable_well_formed}
use Rattle.mw_deduction.specs.Replay.{Stand, begun, concluded}
use Rattle.mw_deduction.proofs.MoveStands.{begun_stands}
use Rattle.mw_deduction.proofs.Concluding.{concludes}
use Rattle.mw_trail.specs.Tracks.{Track, moves}
use Rattle.mw_proof.specs.Deductions.{IsKept, deduced, first_of}
use Rattle.mw_frames.specs.declared.job.Job.TheVariants.{Walk}
use Rattle.mw_frames.specs.declared.job.Hand.TheVariants.{One}
use Rattle.mw_frames.specs.declared.machine.Machine.{Machine}
use Rattle.mw_frames.specs.Machines.{data_of}
use Rattle.mw_frames.specs.State.{Run, with_rules, Data, IsRun, InHand, Holds}
use Rattle.mw_frames.specs.Fires.{IsWhole}
use Rattle.mw_reduce.specs.Driven.{EndsAt, EndsBy, IsDriven}
use Rattle.mw_reduce.specs.Reductions.{IsOutcome, IsNormalWhere, IsReductionOf}
use Rattle.mw_reduce.specs.Evaluations.{run_of, nothing}
use Rattle.mw_reduce.proofs.Ends.{whole_by, outcome_by}
use Rattle.mw_reduce.specs.Limits.{limits_within}
use Rattle.mw_reduce.specs.declared.drive.Driven.{Driven}
use Rattle.mw_reduce.specs.declared.drive.End.{End}
use Rattle.mw_reduce.specs.declared.drive.Outcome.{Outcome}
use Rattle.mw_reduce.specs.declared.drive.Outcome.TheVariants.{Done, Stopped}
use Rattle.mw_reduce.specs.declared.reducing.Budget.{Budget}

-- a whole that is done is normal
pub normal_where : (K : Run) (limit side count : ℕ) (d : Data) (e : End) → EndsBy K limit side count d e → IsNormalWhere K.over K.rank e.term e.outcome
normal_where K limit side count d e (inl (l, z)) = by_outcome e.outcome z
  where
    by_outcome : (o : Outcome) → EndsAt K count side d e.term o → IsNormalWhere K.over K.rank e.term o
    by_outcome Done z = z.normal
    by_outcome (Stopped why) z = tt
normal_where K limit side count d e (inr (c, stops, whole)) = subst (IsNormalWhere K.over K.rank e.term) (sym stops) tt

module _ (M : Module) (w : IsWorkable M) (n : ℕ) (t : RawTerm) (a : IsAdmittedTerm M.signature t) where
  pub starts : Rattle.mw_deduction.specs.Stands.IsStanding M (begun n t)
  starts = begun_stands M w.signature.accepted n t (subst (IsCanonical M.signature) a.canonical (canonical M.signature w.signature.accepted (nested M.signature t))) a.raw a.admitted

  pub is_run : IsRun (run_of M n t) M.signature
  is_run = record { signature = refl; accepted = w.signature.accepted; sorted = w.signature.well_sorted; well = workable_well_formed M w; start = (starts, tt) }

  begins_in_hand : InHand (run_of M n t) 0 nothing (Walk t)
  begins_in_hand = record {
    stand = begun n t;
    leads = record { plays = refl; moves = tt; rank = refl; from = refl; ready = refl; steps = refl; rules = refl };
    opened = refl;
    hand = refl;
    good = tt;
    job = tt;
  }

  -- so it may run from there
  pub begins_run : (first : Machine) → ((N : Module) → data_of N first ≡ nothing) → Holds (run_of M n t) 0 (data_of M first) (One (Walk t))
  begins_run first empty = subst (λ d. Holds (run_of M n t) 0 d (One (Walk t))) (sym (empty M)) begins_in_hand

module _ (M : Module) (w : IsWorkable M) (n : ℕ) (low : n ≤ 63) (t : RawTerm) (a : IsAdmittedTerm M.signature t) where
  -- what is kept of a whole, to which so many replacements lead, and as many by rules
  module _ (ruled : ℕ) (k : Track) (count : ℕ) (d : Data) (u : RawTerm) (is : d.moves ≡ moves M k) (e : IsWhole (with_rules ruled (run_of M n t)) count d u) where
    pub whole_kept : IsKept M n t u k
    whole_kept = record {
      low = low;
      begins = a;
      made = subst (λ ms. Rattle.mw_deduction.specs.Replay.AreMoves M ms (begun n t ∷ [])) is e.leads.moves;
      last = e.stand;
      stands = subst (λ ms. Rattle.mw_deduction.specs.Replay.plays M ms (begun n t ∷ []) ≡ e.stand ∷ []) is e.leads.plays;
      closed = e.closed;
      used = e.leads.ready;
      reaches = e.hand;
    }

    -- the tree
    pub its_proof : (deduced M n t u k).proof ≡ concluded e.stand
    unfolding whole_kept
    its_proof = ap (λ B. concluded (first_of B)) whole_kept.stands

    pub proves_it : Proves M n (concluded e.stand) (nested M.signature t) (nested M.signature u)
    unfolding whole_kept
    proves_it = subst (λ v. Proves M n (concluded e.stand) (nested M.signature t) (nested M.signature v)) e.hand
        (concludes M w.signature.accepted (moves M k) n t e.stand whole_kept.made (starts M w n t a) whole_kept.stands e.closed).1

    pub counted : steps (concluded e.stand) ≡ count
    counted = let s = e.leads.steps in omega (arith, s)

    pub rules_counted : rules (concluded e.stand) ≡ ruled
    rules_counted = let r = e.leads.rules in omega (arith, r)

    whole_reduced : ruled ≡ 0 → (most side : ℕ) (o : Outcome) → ((p : Proof) → Proves M n p (nested M.signature t) (nested M.signature u) → steps p ≡ count → IsOutcome M n (limits_within most side) (nested M.signature t) p (nested M.signature u) o)
        → IsNormalWhere M n u o → IsReductionOf M t (record { steps = most; side = side; nest = n }) (deduced M n t u k) o
    whole_reduced none most side o ends normal = record {
      over = refl;
      rank = refl;
      from = refl;
      equational = ap rules its_proof ∙ rules_counted ∙ none;
      proves = subst (λ p. Proves M n p (nested M.signature t) (nested M.signature u)) (sym its_proof) proves_it;
      ends = subst (λ p. IsOutcome M n (limits_within most side) (nested M.signature t) p (nested M.signature u) o) (sym its_proof) (ends (concluded e.stand) proves_it counted);
      handed = normal;
    }

  module _ (k : Track) (d : Data) (r : Driven) (side : ℕ) (is : d.moves ≡ moves M k) (most : ℕ) where
    pub driven_reduced : IsDriven (run_of M n t) most side d r → IsKept M n t r.end.term k × IsReductionOf M t (record { steps = most; side = side; nest = n }) (deduced M n t r.end.term k) r.end.outcome
    driven_reduced (count, left, by) =
        let e : End = r.end in
        let f = whole_by (run_of M n t) most side count d e by in
        (whole_kept 0 k count d e.term is f, whole_reduced 0 k count d e.term is f refl most side e.outcome (outcome_by (run_of M n t) (limits_within most side) count d e by (nested M.signature t)) (normal_where (run_of M n t) most side count d e by))

-- from a beginning without replacements
pub from_none : (K : Run) (limit side : ℕ) (d : Data) (r : Driven) → IsDriven K (0 + limit) side d r → IsDriven K limit side d r
from_none K limit side d r h = let e : 0 + limit ≡ limit = omega arith in subst (λ n. IsDriven K n side d r) e h

-- the deduction that a run leaves, from a machine where nothing is under way
pub reduced_from : (M : Module) → IsWorkable M → (b : Budget) → b.nest ≤ 63 → (t : RawTerm) → IsAdmittedTerm M.signature t
    → (first : Machine) → ((N : Module) → data_of N first ≡ nothing)
    → (last : Machine) (r : Driven) → ((K : Run) (k : ℕ) → IsRun K M.signature → K.over ≡ M → K.rank ≡ b.nest → Holds K k (data_of K.over first) (One (Walk t)) → IsDriven K (k + b.steps) b.side (data_of K.over last) r)
    → IsKept M b.nest t r.end.term last.kept × IsReductionOf M t b (deduced M b.nest t r.end.term last.kept) r.end.outcome
reduced_from M w b low t admitted first empty last r ran =
    driven_reduced M w b.nest low t admitted last.kept (data_of M last) r b.side refl b.steps (from_none (run_of M b.nest t) b.steps b.side (data_of M last) r (ran (run_of M b.nest t) 0 (is_run M w b.nest t admitted) refl refl (begins_run M w b.nest t admitted first empty)))
