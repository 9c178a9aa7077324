-- What the end of a rewriting says of its proof.
use Rattle.std.specs.Prelude.{◌≡◌, ◌≢◌, ◌<◌, ◌≤◌, ℕ, zero, suc, true, Some, refl}
use Rattle.std.proofs.Common.{sym, subst, ap, ◌∙◌, inl, inr}
use Rattle.mw_logic.specs.Term.{RawTerm}
use Rattle.mw_logic.specs.Parts.{nested}
use Rattle.mw_logic.specs.Module.{Module}
use Rattle.mw_logic.specs.Proof.{Proof, rules, steps}
use Rattle.mw_logic.specs.Judgements.{Proves, IsNormal, Fails, admitted_judgements}
use Rattle.mw_logic.specs.Ends.{Limits, Stops, StopsBy, by_rules}
use Rattle.mw_logic.proofs.Ranks.{admitted_within, normal}
use Rattle.mw_deduction.specs.Replay.{concluded}
use Rattle.mw_proof.specs.Deductions.{IsKept, deduced}
use Rattle.mw_proof.specs.declared.reason.Reason.TheVariants as reason
use Rattle.mw_canon.specs.Canonical.{IsAdmittedTerm}
use Rattle.mw_least.specs.Workable.{IsWorkable}
use Rattle.mw_trail.specs.Tracks.{Track, moves}
use Rattle.mw_frames.specs.State.{Run, with_rules, Data}
use Rattle.mw_frames.specs.Fires.{IsWhole}
use Rattle.mw_reduce.specs.Evaluations.{run_of}
use Rattle.mw_reduce.specs.Driven.{EndsBy}
use Rattle.mw_reduce.specs.Reductions.{IsOutcome, IsNormalWhere}
use Rattle.mw_reduce.proofs.Ends.{MayTry, normal_at, whole_by, outcome_by, stops_by_depth, stops_by_large, stops_by_nest, stops_by_side}
use Rattle.mw_reduce.proofs.Reduced.{normal_where, whole_kept, its_proof, proves_it, counted, rules_counted}
use Rattle.mw_reduce.specs.declared.drive.End.{End}
use Rattle.mw_reduce.specs.declared.drive.Outcome.{Outcome}
use Rattle.mw_reduce.specs.declared.drive.Outcome.TheVariants.{Done, Stopped}
use Rattle.mw_rule.specs.Rewritings.{limits_of, IsRewritten, IsWithin, IsRewritingOf}
use Rattle.mw_rule.specs.Stepped.{EndsRewriting, by_equations, by_bound, by_rules, EndsThere, IsRewrittenBy}
use Rattle.mw_rule.specs.declared.rewriting.Bounds.{Bounds}

stops_by_bound : (M : Module) (n : ℕ) (limits : Limits) (t0 : RawTerm) (p : Proof) (u : RawTerm) → Proves M n p t0 u → steps p < limits.most → Some (rules p) ≡ limits.bound → IsNormal M n u → Stops M n limits t0 p u Rattle.mw_logic.specs.Ends.by_rules
unfolding Stops
stops_by_bound M zero limits t0 p u q l b k = StopsBy.rules_spent (q, l) b k
stops_by_bound M (suc n) limits t0 p u q l b k = StopsBy.rules_spent (q, l) b k

-- the whole at the end
pub whole_at_end : (K : Run) (b : Bounds) (count : ℕ) (d : Data) (e : End) → EndsRewriting K b count d e → IsWhole K count d e.term
whole_at_end K b count d e (by_equations h n) = whole_by K b.steps b.side count d e h
whole_at_end K b count d e (by_bound h l s o) = record { stand = h.stand; leads = h.leads; closed = h.closed; hand = h.hand }
whole_at_end K b count d e (by_rules l s h) = h.whole

module _ (K : Run) (rank : K.rank ≡ 63) (b : Bounds) (count : ℕ) (d : Data) (e : End) (t0 : RawTerm) (p : Proof) (proves : Proves K.over 63 p t0 (nested K.over.signature e.term)) (size : steps p ≡ count) (ruled : rules p ≡ K.rules) where
  abbrev M : Module
  M = K.over

  abbrev u : RawTerm
  u = nested M.signature e.term

  abbrev limits : Limits
  limits = limits_of b

  below : count < b.steps → steps p < b.steps
  below l = subst (λ c. c < b.steps) (sym size) l

  not_bound : Some K.rules ≢ b.rules → Some (rules p) ≢ b.rules
  not_bound n z = n (ap Some (sym ruled) ∙ z)

  stopped : (o : Outcome) → (o ≡ Done → ⊥) → IsOutcome M 63 limits t0 p u o → IsRewritten M limits t0 p u o
  stopped Done n h = absurd (n refl)
  stopped (Stopped why) n h = h

  by_rule : (l : count < b.steps) → Some K.rules ≢ b.rules → IsNormal M 63 u → (o : Outcome) → EndsThere K count b.side d e.term o → IsRewritten M limits t0 p u o
  by_rule l n k o h = at_end o h
    where
      may : MayTry M 63 limits p u true
      may x = (refl, k, not_bound n)

      at_end : (o : Outcome) → EndsThere K count b.side d e.term o → IsRewritten M limits t0 p u o
      at_end Done h = (below l, not_bound n, h)
      at_end (Stopped reason.Rules) h = absurd h
      at_end (Stopped reason.Rewrites) h = absurd h
      at_end (Stopped reason.Depth) h = stops_by_depth M 63 t0 p u limits true may proves (below l) (subst (λ n. Rattle.mw_frames.specs.Fires.WouldBeTooDeep M n true u) rank h)
      at_end (Stopped reason.Nat) h = stops_by_large M 63 t0 p u limits true may proves (below l) (subst (λ n. Rattle.mw_frames.specs.Fires.WouldBeTooLarge M n true u) rank h)
      at_end (Stopped reason.Nest) h = stops_by_nest M 63 limits t0 p u true may proves (below l) h.part h.context h.is_part (λ x. h.free) (subst (λ n. Rattle.mw_reduce.specs.Attempts.IsHalting M true n b.side h.part reason.Nest) rank h.halting)
      at_end (Stopped reason.Condition) h = stops_by_side M 63 limits t0 p u true may proves (below l) h.part h.context h.is_part (λ x. h.free) (subst (λ n. Rattle.mw_reduce.specs.Attempts.IsHalting M true n b.side h.part reason.Condition) rank h.halting)

  pub rewritten_by : EndsRewriting K b count d e → IsRewritten M limits t0 p u e.outcome
  rewritten_by (by_equations h n) =
      stopped e.outcome n (subst (λ r. IsOutcome M r limits t0 p u e.outcome) rank (outcome_by K limits count d e h t0 p (subst (λ r. Proves M r p t0 u) (sym rank) proves) size))
  rewritten_by (by_bound h l s o) =
      let k : IsNormal M 63 u = normal_at M 63 u (normal M (admitted_judgements M 63).Fails (Fails M 63) (admitted_within M 63).Fails u (subst (λ r. Rattle.mw_logic.specs.Judgements.IsNormalBy M (admitted_judgements M r).Fails u) rank h.normal.normal)) in
      subst (IsRewritten M limits t0 p u) (sym o) (stops_by_bound M 63 limits t0 p u proves (below l) (ap Some ruled ∙ s) k)
  rewritten_by (by_rules l s h) = by_rule l s h.normal e.outcome h.there

-- no more steps than the limit
few_steps : (K : Run) (b : Bounds) (count : ℕ) (d : Data) (e : End) → EndsRewriting K b count d e → count ≤ b.steps
few_steps K b count d e (by_equations h n) = by_either h
  where
    by_either : EndsBy K b.steps b.side count d e → count ≤ b.steps
    by_either (inl (l, z)) = omega (Rattle.std.proofs.Common.arith, l)
    by_either (inr (z, stops, w)) = omega (Rattle.std.proofs.Common.arith, z)
few_steps K b count d e (by_bound h l s o) = omega (Rattle.std.proofs.Common.arith, l)
few_steps K b count d e (by_rules l s h) = omega (Rattle.std.proofs.Common.arith, l)

-- a whole that is done is normal
normal_when_done : (K : Run) (b : Bounds) (count : ℕ) (d : Data) (e : End) → EndsRewriting K b count d e → IsNormalWhere K.over K.rank e.term e.outcome
normal_when_done K b count d e (by_equations h n) = normal_where K b.steps b.side count d e h
normal_when_done K b count d e (by_bound h l s o) = subst (IsNormalWhere K.over K.rank e.term) (sym o) tt
normal_when_done K b count d e (by_rules l s h) = by_outcome e.outcome
  where
    by_outcome : (o : Outcome) → IsNormalWhere K.over K.rank e.term o
    by_outcome Done = h.held
    by_outcome (Stopped why) = tt

-- the deduction that a rewriting leaves
pub rewriting_from : (M : Module) → IsWorkable M → (b : Bounds) → (t : RawTerm) → IsAdmittedTerm M.signature t → (k : Track) (d : Data) (e : End) → d.moves ≡ moves M k → IsRewrittenBy (run_of M 63 t) b d e
    → IsKept M 63 t e.term k × IsRewritingOf M t b (deduced M 63 t e.term k) e.outcome
rewriting_from M w b t a k d e is (r, count, within, h) =
    let K : Run = with_rules r (run_of M 63 t) in
    let low : 63 ≤ 63 = omega Rattle.std.proofs.Common.arith in
    let f : IsWhole K count d e.term = whole_at_end K b count d e h in
    let tree = its_proof M w 63 low t a r k count d e.term is f in
    let proves = proves_it M w 63 low t a r k count d e.term is f in
    let size : steps (concluded f.stand) ≡ count = counted M w 63 low t a r k count d e.term is f in
    let ruled : rules (concluded f.stand) ≡ r = rules_counted M w 63 low t a r k count d e.term is f in
    let kept : IsWithin b.rules b.steps (concluded f.stand) = record {
      no_more_steps = subst (λ n. n ≤ b.steps) (sym size) (few_steps K b count d e h);
      no_more_rules = λ n is_bound. subst (λ m. m ≤ n) (sym ruled) (within n is_bound);
    } in (
      whole_kept M w 63 low t a r k count d e.term is f,
      record {
        over = refl;
        rank = refl;
        from = refl;
        proves = subst (λ p. Proves M 63 p (nested M.signature t) (nested M.signature e.term)) (sym tree) proves;
        within = subst (IsWithin b.rules b.steps) (sym tree) kept;
        ends = subst (λ p. IsRewritten M (limits_of b) (nested M.signature t) p (nested M.signature e.term) e.outcome) (sym tree)
            (rewritten_by K refl b count d e (nested M.signature t) (concluded f.stand) proves size ruled h);
        handed = normal_when_done K b count d e h;
      },
    )
