-- A side of a condition: where its run begins, and what its end shows.
use Rattle.std.specs.Prelude.{◌≡◌, ◌≤◌, ◌<◌, ◌-◌, ℕ, zero, suc, List, [], ◌∷◌, ◌++◌, true, false, IsTrue, refl}
use Rattle.std.specs.List.{zip}
use Rattle.std.proofs.Common.{sym, subst, ap, ◌∙◌, arith, inl, inr}
use Rattle.mw_logic.specs.Term.{Variable, RawTerm, is_ground}
use Rattle.mw_logic.specs.Signature.{Signature, IsRawTerm}
use Rattle.mw_logic.specs.Axioms.{EqualModulo}
use Rattle.mw_logic.specs.Accepted.{IsAccepted}
use Rattle.mw_logic.specs.Substitution.{instance}
use Rattle.mw_logic.specs.Parts.{nested, IsTooDeep, IsTooLarge}
use Rattle.mw_logic.specs.NormalForm.{normal_form, height, has_largest}
use Rattle.mw_logic.specs.Module.{Module}
use Rattle.mw_logic.specs.Proof.{Proof, Proofs, nil, cons, equality, transitivity, rules, steps}
use Rattle.mw_logic.specs.Judgements.{judgements_with, admitted_judgements, Proves, Evaluates}
use Rattle.mw_logic.proofs.Admitted.{admitted-iff, too_large-iff}
use Rattle.mw_logic.proofs.AxiomLaws.{sym as back}
use Rattle.mw_logic.proofs.Canonical.{IsCanonical, canonical}
use Rattle.mw_logic.proofs.CanonicalTerms.{fixed}
use Rattle.mw_logic.proofs.CleanForms.{too_deep-iff}
use Rattle.mw_logic.proofs.RawKept.{raw_kept}
use Rattle.mw_logic.proofs.EqualTerms.{ground_kept, IsAdmitted-equal}
use Rattle.mw_logic.proofs.Restricted.{instance_ground}
use Rattle.mw_logic.proofs.SolutionLaws.{instance_raw}
use Rattle.mw_logic.proofs.Soundness.{normal_form-sound}
use Rattle.mw_canon.specs.Canonical.{IsAdmittedTerm}
use Rattle.mw_position.proofs.Placing.{bound_zip}
use Rattle.mw_solving.proofs.Positions.{meant_bound}
use Rattle.mw_matching.specs.Matches.{evaluated}
use Rattle.mw_pattern.specs.Clean.{clean}
use Rattle.mw_least.specs.Workable.{IsWorkable}
use Rattle.mw_index.specs.Conditions.{IsSideOf}
use Rattle.mw_index.specs.declared.conditions.Side.{Side}
use Rattle.mw_deduction.specs.Frontier.{together}
use Rattle.mw_deduction.specs.Reading.{behind}
use Rattle.mw_deduction.specs.Standing.{At}
use Rattle.mw_deduction.specs.Stands.{IsStanding, AreStanding}
use Rattle.mw_deduction.specs.Replay.{Move, begins, ends, Stand, begun, plays, put_behind, showing, AreMoves, concluded, beginnings}
use Rattle.mw_deduction.specs.Runs.{Dones, Runs, end, another, run}
use Rattle.mw_trail.specs.Tracks.{Track, moves}
use Rattle.mw_proof.specs.Deductions.{deduced, first_of, IsKept}
use Rattle.mw_proof.specs.declared.reason.Reason.TheVariants as reason
use Rattle.mw_deduction.proofs.Concluding.{concludes}
use Rattle.mw_deduction.proofs.Ending.{side_evaluates}
use Rattle.mw_deduction.proofs.Moves.{plays-append, moves-append, plays_over}
use Rattle.mw_deduction.proofs.MoveStands.{begun_stands, moves_stand}
use Rattle.mw_frames.specs.State.{Data}
use Rattle.mw_frames.specs.Steps.{IsEnd}
use Rattle.mw_frames.specs.Fires.{IsWhole}
use Rattle.mw_frames.proofs.PlacedTerms.{instance_placed}
use Rattle.mw_reduce.specs.Driven.{IsDriven}
use Rattle.mw_reduce.specs.Evaluations.{AreBoundTo, bound_to, AreAsked, IsEvidence, IsShown, IsStoppedFor, run_of}
use Rattle.mw_reduce.specs.Limits.{limits_within}
use Rattle.mw_reduce.specs.declared.drive.Driven.{Driven}
use Rattle.mw_reduce.specs.declared.drive.End.{End}
use Rattle.mw_reduce.specs.declared.drive.Outcome.TheVariants.{Done, Stopped}
use Rattle.mw_proof.specs.declared.reason.Reason.{Reason}
use Rattle.mw_reduce.proofs.Ends.{whole_by, outcome_by}

-- the instance of a side by values
module _ (M : Module) (work : IsWorkable M) (xs : List Variable) (vs : List RawTerm) (b : AreBoundTo M xs vs) (t : RawTerm) (a : AreAsked M.signature xs t) where
  abbrev sig : Signature
  sig = M.signature

  abbrev ok : IsAccepted sig
  ok = work.signature.accepted

  abbrev pub side : RawTerm
  side = instance (bound_to sig xs vs) t

  pub side_raw : IsRawTerm sig side
  side_raw = instance_raw sig ok work.signature.well_sorted (bound_to sig xs vs) b.substitution a.raw

  side_ground : IsTrue (is_ground side)
  side_ground = instance_ground sig (bound_to sig xs vs) b.substitution t (λ x o. meant_bound sig (zip xs vs) x ∙ bound_zip xs vs x b.size ∙ a.among x o)

  module _ (s : Side) (is : IsSideOf sig xs t s) where
    side_is : evaluated sig vs (clean s.pattern) ≡ normal_form sig side
    side_is = ap (evaluated sig vs) is.pattern ∙ instance_placed sig xs a.distinct vs b.size ok work.signature.well_sorted b.values b.substitution t a.raw a.among

    pub side_begins : (u : RawTerm) → u ≡ evaluated sig vs (clean s.pattern) → height u ≤ 1000 → has_largest sig u ≡ false → IsAdmittedTerm sig u × (u ≡ normal_form sig side)
    side_begins u e low small =
        let f : u ≡ normal_form sig side = e ∙ side_is in
        let same : EqualModulo sig side (nested sig u) = subst (λ v. EqualModulo sig side (nested sig v)) (sym f) (normal_form-sound sig ok side_raw) in
        let raw : IsRawTerm sig (nested sig u) = (raw_kept sig ok same).0 side_raw in
        let fix : normal_form sig (nested sig u) ≡ u = fixed sig ok u (subst (IsCanonical sig) (sym f) (canonical sig ok side)) in (
          record {
            raw = raw;
            canonical = fix;
            admitted = (admitted-iff sig ok raw).1 (sym (ground_kept sig same) ∙ side_ground, subst (λ v. height v ≤ 1000) (sym fix) low, ap (has_largest sig) fix ∙ small);
          },
          f,
        )

    pub side_deep : 1000 < height (evaluated sig vs (clean s.pattern)) → IsTooDeep sig side
    side_deep d = (too_deep-iff sig ok side_raw).1 (subst (λ v. 1000 < height v) side_is d)

    pub side_large : height (evaluated sig vs (clean s.pattern)) ≤ 1000 → has_largest sig (evaluated sig vs (clean s.pattern)) ≡ true → IsTooLarge sig side × (IsTooDeep sig side → ⊥)
    side_large low large = (
      (too_large-iff sig ok side_raw).1 (sym (ap (has_largest sig) side_is) ∙ large),
      λ d. let h = (too_deep-iff sig ok side_raw).0 d in let l = subst (λ v. height v ≤ 1000) side_is low in omega (arith, h, l),
    )

-- evidence comes behind what waits
behind_together : (ps : Proofs) (p : Proof) → behind ps p ≡ together ps (cons p nil)
behind_together nil p = refl
behind_together (cons q ps) p = ap (cons q) (behind_together ps p)

-- so does what was carried out
beginnings_behind : (rs : Runs) (t u : RawTerm) (ds : Dones) → beginnings (put_behind rs (run t u ds)) ≡ beginnings rs ++ t ∷ []
beginnings_behind end t u ds = refl
beginnings_behind (another (run v w es) rs) t u ds = ap (λ ts. v ∷ ts) (beginnings_behind rs t u ds)

-- what is proved from an equal term
equal_first : (M : Module) (n : ℕ) (t m u : RawTerm) (q : Proof) → EqualModulo M.signature t m → Proves M n q m u → Proves M n (transitivity equality q) t u
unfolding judgements_with
equal_first M zero t m u q e h = (m, e, h)
equal_first M (suc n) t m u q e h = (m, e, h)

module _ (M : Module) (work : IsWorkable M) (n : ℕ) (t : RawTerm) (raw : IsRawTerm M.signature t) (u : RawTerm) (begins_at : IsAdmittedTerm M.signature u) (is : u ≡ normal_form M.signature t) where
  abbrev here : Signature
  here = M.signature

  abbrev accepted : IsAccepted here
  accepted = work.signature.accepted

  starts : IsStanding M (begun n u)
  starts = begun_stands M accepted n u (subst (IsCanonical here) begins_at.canonical (canonical here accepted (nested here u))) begins_at.raw begins_at.admitted

  module _ (count : ℕ) (a : RawTerm) (k : Track) (d : Data) (kept_as : d.moves ≡ moves M k) (e : IsWhole (run_of M n u) count d a) where
    abbrev T : Stand
    T = e.stand

    abbrev ms : List Move
    ms = moves M k

    made : AreMoves M ms (begun n u ∷ [])
    made = subst (λ ms. AreMoves M ms (begun n u ∷ [])) kept_as e.leads.moves

    stands : plays M ms (begun n u ∷ []) ≡ T ∷ []
    stands = subst (λ ms. plays M ms (begun n u ∷ []) ≡ T ∷ []) kept_as e.leads.plays

    -- the proof that it kept
    abbrev kept_proof : Proof
    kept_proof = (deduced M n u a k).proof

    proof_is : kept_proof ≡ concluded T
    proof_is = ap (λ B. concluded (first_of B)) stands

    standing : IsStanding M T
    standing = (subst (AreStanding M) stands (moves_stand M accepted ms (begun n u ∷ []) (starts, tt) made)).0

    side_kept : n ≤ 63 → IsKept M n u a k
    side_kept low = record { low = low; begins = begins_at; made = made; last = T; stands = stands; closed = e.closed; used = e.leads.ready; reaches = e.hand }

    pub side_proves : Proves M n (transitivity equality kept_proof) t (nested here a)
    side_proves = equal_first M n t (nested here u) (nested here a) kept_proof
        (subst (λ v. EqualModulo here t (nested here v)) (sym is) (normal_form-sound here accepted raw))
        (subst (λ p. Proves M n p (nested here u) (nested here a)) (sym proof_is) (subst (λ v. Proves M n (concluded T) (nested here u) (nested here v)) e.hand (concludes M accepted ms n u T made starts stands e.closed).1))

    pub side_steps : steps (transitivity equality kept_proof) ≡ count
    side_steps = ap (λ p. steps (transitivity equality p)) proof_is ∙ (let s = e.leads.steps in let z : steps (transitivity equality (concluded T)) ≡ count = omega (arith, s) in z)

    pub side_rules : rules (transitivity equality kept_proof) ≡ 0
    side_rules = ap (λ p. rules (transitivity equality p)) proof_is ∙ (let r = e.leads.rules in let z : rules (transitivity equality (concluded T)) ≡ 0 = omega (arith, r) in z)

    -- what it did may be done as a side, wherever a proof stands one rank above
    side_evidence : IsEvidence M (suc n) (cons (transitivity equality kept_proof) nil) (nested here u ∷ []) (begins u ∷ (ms ++ ends ∷ []))
    side_evidence = λ S B rank.
        let inner : List Stand = begun n u ∷ S ∷ B in
        let (may, same) = plays_over M ms (begun n u ∷ []) (S ∷ B) made in
        let there : plays M ms inner ≡ T ∷ S ∷ B = same ∙ ap (λ X. X ++ (S ∷ B)) stands in
        let low : begun (S.rank - 1) u ∷ S ∷ B ≡ inner = ap (λ k. begun k u ∷ S ∷ B) (omega (arith, rank)) in
        let all : AreMoves M (ms ++ ends ∷ []) inner = moves-append M ms (ends ∷ []) inner may (subst (AreMoves M (ends ∷ [])) (sym there) (record { outside = e.closed; nothing_waits = e.leads.ready }, tt)) in
        record {
          waiting = showing here T S;
          may = (record { rank = n; above = rank; canonical = subst (IsCanonical here) begins_at.canonical (canonical here accepted (nested here u)); raw = begins_at.raw; admitted = begins_at.admitted }, subst (AreMoves M (ms ++ ends ∷ [])) (sym low) all);
          plays = ap (plays M (ms ++ ends ∷ [])) low ∙ plays-append M ms (ends ∷ []) inner ∙ ap (plays M (ends ∷ [])) there;
          waits = record { rank = refl; from = refl; opens = refl; hand = refl; entered = refl; done = refl; ready = behind_together S.read.ready (transitivity equality (concluded T)) ∙ ap (λ p. together S.read.ready (cons (transitivity equality p) nil)) (sym proof_is) };
          starts = beginnings_behind S.sides (nested here T.from) (nested here T.hand) T.run ∙ ap (λ v. beginnings S.sides ++ nested here v ∷ []) e.leads.from;
        }

  -- at a normal term it evaluates to it
  side_shown : (count : ℕ) (a : RawTerm) (k : Track) (d : Data) → d.moves ≡ moves M k → IsEnd (run_of M n u) count d a → IsShown M n t (record { from = u; to = a; kept = k })
  side_shown count a k d kept_as e =
      let w : IsWhole (run_of M n u) count d a = record { stand = e.stand; leads = e.leads; closed = e.closed; hand = e.hand } in
      let h : IsStanding M e.stand = standing count a k d kept_as w in
      let at : At M (admitted_judgements M n).Held (admitted_judgements M n).Fails (nested here (normal_form here t)) e.stand.read [] a =
      subst (λ v. At M (admitted_judgements M n).Held (admitted_judgements M n).Fails (nested here v) e.stand.read [] a) is
      (subst (λ v. At M (admitted_judgements M n).Held (admitted_judgements M n).Fails (nested here u) e.stand.read [] v) e.hand
      (subst (λ os. At M (admitted_judgements M n).Held (admitted_judgements M n).Fails (nested here u) e.stand.read os e.stand.hand) e.closed
      (subst (λ v. At M (admitted_judgements M n).Held (admitted_judgements M n).Fails (nested here v) e.stand.read e.stand.opens e.stand.hand) e.leads.from
      (subst (λ k. At M (admitted_judgements M k).Held (admitted_judgements M k).Fails (nested here e.stand.from) e.stand.read e.stand.opens e.stand.hand) e.leads.rank h.at)))) in
      record {
        begins = is;
        evaluates = subst (λ p. Evaluates (admitted_judgements M n) t (transitivity equality p) (nested here a)) (sym (proof_is count a k d kept_as w)) (side_evaluates M accepted n t e.stand.read a raw at e.leads.rules e.normal.normal);
        normal = e.normal;
        evidence = side_evidence count a k d kept_as w;
        kept = side_kept count a k d kept_as w;
      }

  -- where its run stops it stops
  pub side_stopped : (limit : ℕ) (k : Track) (d : Data) → d.moves ≡ moves M k → (r : Driven) (why : Reason) → r.end.outcome ≡ Stopped why → IsDriven (run_of M n u) limit limit d r → IsStoppedFor M n limit t why
  side_stopped limit k d kept_as r why o (count, left, by) =
      let e : End = r.end in
      let w : IsWhole (run_of M n u) count d e.term = whole_by (run_of M n u) limit limit count d e by in
      let p : Proof = transitivity equality (deduced M n u e.term k).proof in
      let ends = outcome_by (run_of M n u) (limits_within limit limit) count d e by t p (side_proves count e.term k d kept_as w) (side_steps count e.term k d kept_as w) in
      let same : EqualModulo here t (nested here u) = subst (λ v. EqualModulo here t (nested here v)) (sym is) (normal_form-sound here accepted raw) in
      inr (IsAdmitted-equal here (back same) begins_at.admitted, (p, nested here e.term, side_rules count e.term k d kept_as w, rw o at ends))

  pub side_done : (limit : ℕ) (k : Track) (d : Data) → d.moves ≡ moves M k → (r : Driven) → r.end.outcome ≡ Done → IsDriven (run_of M n u) limit limit d r → IsShown M n t (record { from = u; to = r.end.term; kept = k })
  side_done limit k d kept_as r o (count, left, inl (l, z)) = side_shown count r.end.term k d kept_as (rw o at z)
  side_done limit k d kept_as r o (count, left, inr (l, q, z)) = let bad : Done ≡ Stopped reason.Rewrites = sym o ∙ q in cc
