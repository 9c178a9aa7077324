-- Why a run ends, as its proof shows it.
use Rattle.std.specs.Prelude.{◌≡◌, ◌≢◌, ◌⊎◌, ◌<◌, ℕ, zero, suc, Bool, true, false, Some, IsTrue, IsFalse, refl}
use Rattle.std.proofs.Common.{sym, subst, ◌∙◌, inl, inr, true≢false}
use Rattle.mw_logic.specs.Term.{RawTerm, Context}
use Rattle.mw_logic.specs.Parts.{nested, IsPart, IsFrozen, IsAdmitted}
use Rattle.mw_logic.specs.Substitution.{instance}
use Rattle.mw_logic.specs.Module.{Module, Statement}
use Rattle.mw_logic.specs.Proof.{Proof, equality, rules, steps}
use Rattle.mw_logic.specs.Judgements.{Judgements, AdmittedStep, judgements, admitted_judgements, judgements_with, Proves, Fails, IsNormal, IsNormalBy}
use Rattle.mw_logic.specs.Ends as ends
use Rattle.mw_logic.specs.Ends.{Limits, NextStep, Tries, Stops, StopsBy, StopsAtOnce, by_depth, by_rewrites, by_nat, by_nest, by_condition, by_statement, by_row}
use Rattle.mw_logic.proofs.Ranks.{admitted_within, normal, row_within}
use Rattle.mw_deduction.proofs.Frontiers.{Held_before}
use Rattle.mw_deduction.proofs.Stopping.{stops_by_condition}
use Rattle.mw_proof.specs.Reasons.{reason_of}
use Rattle.mw_proof.specs.declared.reason.Reason.{Reason}
use Rattle.mw_proof.specs.declared.reason.Reason.TheVariants as reason
use Rattle.mw_frames.specs.State.{Run, Data}
use Rattle.mw_frames.specs.Fires as fires
use Rattle.mw_frames.specs.Fires.{IsWhole, Becomes, WouldBeTooDeep, WouldBeTooLarge, HasBigPair}
use Rattle.mw_reduce.specs.Limits.{limits_within}
use Rattle.mw_reduce.specs.Reductions.{IsOutcome}
use Rattle.mw_reduce.specs.Evaluations.{IsStoppedFor, IsStoppedInside}
use Rattle.mw_reduce.specs.Attempts.{IsHalting}
use Rattle.mw_reduce.specs.Driven.{EndsAt, EndsBy}
use Rattle.mw_reduce.specs.declared.drive.Outcome.{Outcome}
use Rattle.mw_reduce.specs.declared.drive.Outcome.TheVariants.{Done, Stopped}
use Rattle.mw_reduce.specs.declared.drive.End.{End}

pub normal_at : (M : Module) (n : ℕ) (u : RawTerm) → IsNormalBy M (Fails M n) u → IsNormal M n u
unfolding judgements_with
normal_at M zero u h = h
normal_at M (suc n) u h = h

-- what is asked of a try of a rule, where b says that it is one: that rules are tried, of a normal term, and that some are left
abbrev pub MayTry : Module → ℕ → Limits → Proof → RawTerm → Bool → Type 0
MayTry M n limits p u b = IsTrue b → IsTrue limits.rules_too × IsNormal M n u × (Some (rules p) ≢ limits.bound)

pub by_equations : (M : Module) (n : ℕ) (limits : Limits) (p : Proof) (u : RawTerm) → MayTry M n limits p u false
by_equations M n limits p u x = absurd (true≢false (sym x))

module _ (M : Module) (n : ℕ) (t0 : RawTerm) (p : Proof) (u : RawTerm) (limits : Limits) where
  pub stops_by_rewrites : Proves M n p t0 u → steps p ≡ limits.most → Stops M n limits t0 p u by_rewrites
  unfolding Stops
  stops_by_rewrites h e = by_rank n h
    where
      by_rank : (n : ℕ) → Proves M n p t0 u → Stops M n limits t0 p u by_rewrites
      by_rank zero q = StopsBy.rewrites q e
      by_rank (suc n) q = StopsBy.rewrites q e

  may_be : (b : Bool) (J : Judgements) (C : Context) (w : RawTerm) (e : Statement) → e.rule ≡ b → e.owise ≡ false → (IsTrue b → IsTrue limits.rules_too × J.Normal u × (Some (rules p) ≢ limits.bound)) → (IsTrue b → ¬ IsFrozen M.signature C)
      → (IsFalse e.rule × (IsTrue e.owise → J.Plain w)) ⊎ (IsTrue limits.rules_too × IsTrue e.rule × J.Normal u × ¬ IsFrozen M.signature C × (Some (rules p) ≢ limits.bound))
  may_be false J C w e kind o may free = inl (kind, λ x. absurd (true≢false (sym x ∙ o)))
  may_be true J C w e kind o may free = let (a, normal, left) = may refl in inr (a, kind, normal, free refl, left)

  -- what a statement or a row leads to is a next step
  next_step : (b : Bool) → MayTry M n limits p u b → (v : RawTerm) → Becomes M n b u v → NextStep M (judgements M n) limits p u v
  next_step b may v (fires.by_statement C w number e s r es part there kind free ordinary sol held) =
      by_statement C e s r es
      (record { part = w; is_part = part; number = number; is_there = there; solution = sol; may = may_be b (judgements M n) C w e kind ordinary.ordinary may free })
      ((admitted_within M n).Held e.fragments s es r held)
  next_step b may v (fires.by_schema C w x part row) = by_row C w x part (row_within (λ y h. normal_at M n y (normal M (admitted_judgements M n).Fails (Fails M n) (admitted_within M n).Fails y h)) row)

  pub stops_by_depth : (b : Bool) → MayTry M n limits p u b → Proves M n p t0 u → steps p < limits.most → WouldBeTooDeep M n b u → Stops M n limits t0 p u by_depth
  unfolding Stops
  stops_by_depth b may h l d = by_rank n h (next_step b may d.next d.becomes)
    where
      by_rank : (n : ℕ) → Proves M n p t0 u → NextStep M (judgements M n) limits p u d.next → Stops M n limits t0 p u by_depth
      by_rank zero q x = StopsBy.depth _ (q, l) x d.deep
      by_rank (suc n) q x = StopsBy.depth _ (q, l) x d.deep

  pub stops_by_large : (b : Bool) → MayTry M n limits p u b → Proves M n p t0 u → steps p < limits.most → WouldBeTooLarge M n b u → Stops M n limits t0 p u by_nat
  unfolding Stops
  stops_by_large b may h l d = by_rank n h (next_step b may d.next d.becomes)
    where
      by_rank : (n : ℕ) → Proves M n p t0 u → NextStep M (judgements M n) limits p u d.next → Stops M n limits t0 p u by_nat
      by_rank zero q x = StopsBy.large _ (q, l) x d.large d.not_deep
      by_rank (suc n) q x = StopsBy.large _ (q, l) x d.large d.not_deep

  pub stops_by_pair : Proves M n p t0 u → steps p < limits.most → HasBigPair M u → Stops M n limits t0 p u by_nat
  unfolding Stops
  stops_by_pair h l d = by_rank n h
    where
      by_rank : (n : ℕ) → Proves M n p t0 u → Stops M n limits t0 p u by_nat
      by_rank zero q = StopsBy.big_pair d.context d.pair (q, l) d.is_part d.too_big
      by_rank (suc n) q = StopsBy.big_pair d.context d.pair (q, l) d.is_part d.too_big

  -- a statement is tried at a part
  tries : (J : Judgements) (b : Bool) → (IsTrue b → IsTrue limits.rules_too × J.Normal u × (Some (rules p) ≢ limits.bound)) → (w : RawTerm) (side : ℕ) (why : Reason) (C : Context) → IsPart M.signature u C w → (IsTrue b → ¬ IsFrozen M.signature C)
      → (h : IsHalting M b n side w why) → Tries M J limits p u C h.statement h.solution
  tries J b may w side why C part free h = record {
    part = w;
    is_part = part;
    number = h.number;
    is_there = h.is_there;
    solution = h.solves;
    may = may_be b J C w h.statement h.rule h.ordinary.ordinary may free;
  }

pub stops_by_nest : (M : Module) (n : ℕ) (limits : Limits) (t0 : RawTerm) (p : Proof) (u : RawTerm) (b : Bool) → MayTry M n limits p u b → Proves M n p t0 u → steps p < limits.most
    → (w : RawTerm) (C : Context) → IsPart M.signature u C w → (IsTrue b → ¬ IsFrozen M.signature C) → IsHalting M b n limits.most_of_sides w reason.Nest → Stops M n limits t0 p u by_nest
unfolding Stops
stops_by_nest M zero limits t0 p u b may q l w C part free h = StopsBy.nest C h.statement h.solution (q, l) tt (tries M 0 t0 p u limits (judgements M 0) b may w limits.most_of_sides reason.Nest C part free h) h.cause.1
stops_by_nest M (suc n) limits t0 p u b may q l w C part free h = let z = h.cause.0 in absurd (cc)

-- a side stops, for whatever reason
inner : (M : Module) (m side : ℕ) (t : RawTerm) (why : Reason) → IsStoppedFor M m side t why
    → (q : Proof) × (v : RawTerm) × (again : ends.Reason) × (StopsAtOnce M t again ⊎ (IsAdmitted M.signature t × (rules q ≡ 0) × Stops M m (limits_within side side) t q v again))
inner M m side t why (inl x) = (equality, t, reason_of why, inl x)
inner M m side t why (inr (a, (q, v, r, s))) = (q, v, reason_of why, inr (a, r, s))

pub stops_by_side : (M : Module) (n : ℕ) (limits : Limits) (t0 : RawTerm) (p : Proof) (u : RawTerm) (b : Bool) → MayTry M n limits p u b → Proves M n p t0 u → steps p < limits.most
    → (w : RawTerm) (C : Context) → IsPart M.signature u C w → (IsTrue b → ¬ IsFrozen M.signature C) → IsHalting M b n limits.most_of_sides w reason.Condition → Stops M n limits t0 p u by_condition
stops_by_side M zero limits t0 p u b may q l w C part free h = let z = h.cause.1 in absurd (cc)
stops_by_side M (suc n) limits t0 p u b may q l w C part free h =
    let side : ℕ = limits.most_of_sides in
    let (m, e, why, inside) = h.cause in
    let same : m ≡ n = cc in
    let stopped : IsStoppedInside M n side h.statement.fragments h.solution why = subst (λ k. IsStoppedInside M k side h.statement.fragments h.solution why) same inside in
    let (r, v, again, stops) = inner M n side (instance stopped.reached stopped.side) why stopped.stops in
    stops_by_condition M n limits t0 p u C q l h.statement h.solution stopped.reached stopped.held stopped.rest stopped.fragment stopped.proofs stopped.side
    (tries M (suc n) t0 p u limits (judgements M (suc n)) b may w side reason.Condition C part free h) stopped.is
    ((admitted_within M (suc n)).Held stopped.held h.solution stopped.proofs stopped.reached (Held_before M (AdmittedStep M) n stopped.held h.solution stopped.proofs stopped.reached stopped.holds)) stopped.is_side r v again stops

-- the whole at the end of a run
pub whole_by : (K : Run) (most side count : ℕ) (d : Data) (e : End) → EndsBy K most side count d e → IsWhole K count d e.term
whole_by K most side count d e (inr (l, q, z)) = z
whole_by K most side count d e (inl (l, z)) = whole_at e.outcome z
  where
    whole_at : (o : Outcome) → EndsAt K count side d e.term o → IsWhole K count d e.term
    whole_at Done z = record { stand = z.stand; leads = z.leads; closed = z.closed; hand = z.hand }
    whole_at (Stopped reason.Rewrites) z = absurd z
    whole_at (Stopped reason.Depth) z = z.0
    whole_at (Stopped reason.Rules) z = absurd z
    whole_at (Stopped reason.Nat) z = z.0
    whole_at (Stopped reason.Nest) z = z.0
    whole_at (Stopped reason.Condition) z = z.0

-- The reason holds of each proof of the whole with as many steps.
pub outcome_by : (K : Run) (limits : Limits) (count : ℕ) (d : Data) (e : End) → EndsBy K limits.most limits.most_of_sides count d e → (t0 : RawTerm) (p : Proof) → Proves K.over K.rank p t0 (nested K.over.signature e.term) → steps p ≡ count
    → IsOutcome K.over K.rank limits t0 p (nested K.over.signature e.term) e.outcome
outcome_by K limits count d e (inr (l, q, z)) t0 p proves s =
    subst (IsOutcome K.over K.rank limits t0 p (nested K.over.signature e.term)) (sym q) (stops_by_rewrites K.over K.rank t0 p (nested K.over.signature e.term) limits proves (s ∙ l))
outcome_by K limits count d e (inl (l, z)) t0 p proves s = outcome_at e.outcome z
  where
    M : Module
    M = K.over

    n : ℕ
    n = K.rank

    u : RawTerm
    u = nested M.signature e.term

    below : steps p < limits.most
    below = subst (λ c. c < limits.most) (sym s) l

    may : MayTry M n limits p u false
    may = by_equations M n limits p u

    not_frozen : (C : Context) → IsTrue false → ¬ IsFrozen M.signature C
    not_frozen C x = absurd (true≢false (sym x))

    large : WouldBeTooLarge M n false u ⊎ HasBigPair M u → Stops M n limits t0 p u by_nat
    large (inl x) = stops_by_large M n t0 p u limits false may proves below x
    large (inr x) = stops_by_pair M n t0 p u limits proves below x

    outcome_at : (o : Outcome) → EndsAt K count limits.most_of_sides d e.term o → IsOutcome M n limits t0 p u o
    outcome_at Done z = (below, normal_at M n u (normal M (admitted_judgements M n).Fails (Fails M n) (admitted_within M n).Fails u z.normal.normal))
    outcome_at (Stopped reason.Rewrites) z = absurd z
    outcome_at (Stopped reason.Depth) z = stops_by_depth M n t0 p u limits false may proves below z.1
    outcome_at (Stopped reason.Rules) z = absurd z
    outcome_at (Stopped reason.Nat) z = large z.1
    outcome_at (Stopped reason.Nest) z = let (w, part, h) = z.1 in stops_by_nest M n limits t0 p u false may proves below w part.0 part.1 (not_frozen part.0) h
    outcome_at (Stopped reason.Condition) z = let (w, part, h) = z.1 in stops_by_side M n limits t0 p u false may proves below w part.0 part.1 (not_frozen part.0) h
