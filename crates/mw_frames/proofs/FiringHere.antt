-- A statement is applied to the term that the machine has in hand.
use Rattle.std.specs.Prelude.{◌≡◌, ◌≤◌, ◌<◌, ℕ, zero, suc, ◌+◌, length, List, [], ◌∷◌, ◌++◌, Bool, true, false, Some, option_map, unwrap_or}
use Rattle.std.specs.List.{zip}
use Rattle.std.proofs.Common.{sym, subst, ap, ◌∙◌, arith}
use Rattle.std.proofs.Math.Seq.{drop-append_seam}
use Rattle.mw_logic.specs.Term.{RawTerm, RawTerms, apply, plug}
use Rattle.mw_logic.specs.Signature.{Signature, at_number, IsRawTerm, an_operator}
use Rattle.mw_logic.specs.Parts.{nested, all_nested, IsAdmitted, IsTooDeep, IsTooLarge}
use Rattle.mw_logic.specs.NormalForm.{normal_form, height, has_largest}
use Rattle.mw_logic.specs.Module.{Module, Statement}
use Rattle.mw_logic.proofs.Inside.{raw_inside}
use Rattle.mw_logic.specs.Judgements.{admitted_judgements}
use Rattle.mw_canon.specs.Canonical.{meant}
use Rattle.mw_matching.specs.Matches.{evaluated}
use Rattle.mw_deduction.specs.Standing.{Open, round, AreClear, IsSeen, At}
use Rattle.mw_deduction.specs.Replay.{Move, applies, Stand, whole}
use Rattle.mw_trail.specs.Tracks.{variables_of, is_rule}
use Rattle.mw_frames.specs.declared.job.Job.{Job}
use Rattle.mw_frames.specs.declared.job.Job.TheVariants.{Walk, Try}
use Rattle.mw_frames.specs.declared.job.Frame.{Frame}
use Rattle.mw_frames.specs.Jobs.{term_of, AreOpened}
use Rattle.mw_frames.specs.State.{Run, after_one, Data, Leads, IsRun, InHand, IsJob, IsKnownIn}
use Rattle.mw_frames.specs.Redex.{IsRedex, MayCome, IsSeenIn, hole_level, MayFire, HasInHand, HasOnTop}
use Rattle.mw_frames.specs.Larger.{AreSmall}
use Rattle.mw_frames.proofs.Redexes.{made, made_comes, IsReplaced, fires}
use Rattle.mw_frames.proofs.RightSides.{right_is}
use Rattle.mw_frames.specs.Fires.{IsSure}
use Rattle.mw_frames.proofs.KnownValues.{values_known, free_values_known, right_known}
use Rattle.mw_frames.proofs.Growing.{opened_grown, all_good_grown}
use Rattle.mw_frames.proofs.HoleDepths.{admitted_after, large_there, deep_there, raw_after, small_there}
use Rattle.mw_frames.proofs.Turning.{at_hand, seen_here}

-- what may be asked of a run may be behind one statement more
pub run_after : (b : Bool) (K : Run) (sig : Signature) → IsRun K sig → IsRun (after_one b K) sig
run_after b K sig run = record { signature = run.signature; accepted = run.accepted; sorted = run.sorted; well = run.well; start = run.start }

module _ (K : Run) (sig : Signature) (run : IsRun K sig) (count : ℕ) where
  abbrev M : Module
  M = K.over

  abbrev here : Signature
  here = K.over.signature

  -- what isn't hidden is seen
  pub seen_in : (vs : List RawTerm) (fs : List Frame) (ds : List RawTerm) (xs : List Job) (os : List Open) (t : RawTerm) → AreOpened here vs fs ds xs os → IsSeenIn here fs t → IsSeen here os t
  seen_in vs [] ds xs os t o h = subst (λ ps. IsSeen here ps t) (sym o) tt
  seen_in vs (f ∷ fs) ds xs os t o h = seen_here K run.accepted run.sorted count vs f fs ds xs os t o h

  -- the place of the term in hand
  pub at_term : (ms : List Move) (S : Stand) (w : RawTerm) → Leads K count ms S → S.hand ≡ w → At M (admitted_judgements M K.rank).Held (admitted_judgements M K.rank).Fails (nested here S.from) S.read S.opens w
  at_term ms S w h e = subst (At M (admitted_judgements M K.rank).Held (admitted_judgements M K.rank).Fails (nested here S.from) S.read S.opens) e (at_hand K run.accepted run.sorted count ms S run.start h)

  -- What comes for a term that is in hand, and seen.
  module _ (m : Data) (w : RawTerm) (h : InHand K count m (Walk w)) where
    abbrev os : List Open
    os = h.stand.opens

    abbrev pub at_it : At M (admitted_judgements M K.rank).Held (admitted_judgements M K.rank).Fails (nested here h.stand.from) h.stand.read os w
    at_it = at_term m.moves h.stand w h.leads h.hand

    -- `s_` stands on the largest numeral nowhere
    pub small_here : AreClear here os × AreSmall here os × (has_largest here w ≡ false)
    small_here = let (a, b) = small_there here run.accepted os w at_it.clear at_it.canonical at_it.raw at_it.admitted in (at_it.clear, a, b)

    module _ (seen : IsSeenIn here m.frames w) where
      pub seen_there : IsSeen here os w
      seen_there = seen_in m.values m.frames m.done m.jobs os w h.opened seen

      module _ (v : RawTerm) (c : MayCome here w v) where
        pub admitted_here : hole_level here m.frames (normal_form here v) + height (normal_form here v) ≤ 1000 → has_largest here (whole here os (normal_form here v)) ≡ false → IsAdmitted here (plug (round here os) v)
        admitted_here = admitted_after here run.accepted w v c m.values m.frames m.done m.jobs os at_it.clear h.opened at_it.canonical seen_there at_it.raw at_it.admitted

        pub large_here : hole_level here m.frames (normal_form here v) + height (normal_form here v) ≤ 1000 → has_largest here (whole here os (normal_form here v)) ≡ true
            → IsTooLarge here (plug (round here os) v) × ¬ IsTooDeep here (plug (round here os) v)
        large_here = large_there here run.accepted w v c m.values m.frames m.done m.jobs os at_it.clear h.opened at_it.canonical seen_there at_it.raw at_it.admitted

        pub deep_here : 1000 < hole_level here m.frames (normal_form here v) + height (normal_form here v) → IsTooDeep here (plug (round here os) v)
        deep_here = deep_there here run.accepted w v c m.values m.frames m.done m.jobs os at_it.clear h.opened at_it.canonical seen_there at_it.raw at_it.admitted

        pub raw_after_here : IsRawTerm here (plug (round here os) v)
        raw_after_here = raw_after here run.accepted w v c m.values m.frames m.done m.jobs os at_it.clear h.opened at_it.canonical seen_there at_it.raw at_it.admitted

    -- a replacement was made: what comes is in hand, as any job of which that is known, and more values are kept
    pub replaced_here : (b : Bool) (v : RawTerm) (ws : List RawTerm) (ms : List Move) → IsReplaced K b count ms h.stand v
        → HasInHand (after_one b K) (suc count) (record { frames = m.frames; done = m.done; jobs = m.jobs; values = m.values ++ ws; moves = ms }) v
    replaced_here b v ws ms f x e j = record {
      stand = f.stand;
      leads = f.leads;
      opened = subst (AreOpened here (m.values ++ ws) m.frames m.done m.jobs) (sym f.opens) (opened_grown M K.rank ws m.values m.frames m.done m.jobs os h.good h.opened);
      hand = f.hand ∙ sym e;
      good = all_good_grown M K.rank ws m.values m.frames m.done m.jobs h.good;
      job = j;
    }

  -- the same, at data that are equal to these
  pub so_in_hand : (m n : Data) (ws : List RawTerm) (ms : List Move) (v : RawTerm) → HasInHand K count (record { frames = m.frames; done = m.done; jobs = m.jobs; values = m.values ++ ws; moves = ms }) v
      → n.frames ≡ m.frames → n.done ≡ m.done → n.jobs ≡ m.jobs → n.values ≡ m.values ++ ws → n.moves ≡ ms → HasInHand K count n v
  so_in_hand m n ws ms v h ef ed ej ev em x e j =
      let i = h x (ap (λ us. term_of here us x) (sym ev) ∙ e) (subst (λ us. IsJob M K.rank us x) ev j) in
      subst (λ fs. InHand K count (record { frames = fs; done = n.done; jobs = n.jobs; values = n.values; moves = n.moves }) x) (sym ef)
      (subst (λ ds. InHand K count (record { frames = m.frames; done = ds; jobs = n.jobs; values = n.values; moves = n.moves }) x) (sym ed)
      (subst (λ js. InHand K count (record { frames = m.frames; done = m.done; jobs = js; values = n.values; moves = n.moves }) x) (sym ej)
      (subst (λ us. InHand K count (record { frames = m.frames; done = m.done; jobs = m.jobs; values = us; moves = n.moves }) x) (sym ev)
      (subst (λ ns. InHand K count (record { frames = m.frames; done = m.done; jobs = m.jobs; values = m.values ++ ws; moves = ns }) x) (sym em) i))))

  -- What is known of the right side, whose values are kept behind those that were.
  module _ (values us : List RawTerm) (ms : List Move) (fs : List Frame) (ds : List RawTerm) (xs : List Job) (number : ℕ) (ss : List Move) (vs : List RawTerm) (right w : RawTerm)
      (h : InHand K count (record { frames = fs; done = ds; jobs = xs; values = us; moves = ms }) (Try w)) (r : IsRedex M K.rank number ss vs right w) where
    raw_here : IsRawTerm here (nested here w)
    raw_here = raw_inside here run.accepted (round here h.stand.opens) (nested here w) (at_term ms h.stand w h.leads h.hand).raw

    -- operators are numbered from 1
    pub top_positive : (g : ℕ) (ts : RawTerms) → w ≡ apply g ts → 0 < g
    top_positive zero ts e = absurd (none (subst (λ t. IsRawTerm here (nested here t)) e raw_here))
      where
        none : IsRawTerm here (apply 0 (all_nested here ts)) → ⊥
        none (an_operator o is args) = cc
    top_positive (suc g) ts e = omega arith

    -- by the operator on top of the term,
    pub right_known_here : (f : ℕ) → 0 < f → HasOnTop f w → IsKnownIn M K.rank (values ++ vs) (length values) f right
    right_known_here f positive top =
        right_known M run.accepted run.sorted K.rank number ss vs right w r f (length values) (values ++ vs) (drop-append_seam values vs)
        (values_known M run.accepted run.sorted K.rank number ss vs right w r f positive top (at_term ms h.stand w h.leads h.hand).canonical raw_here h.job)

    -- or, where the left side has no axioms, that each value is normal
    pub free_right_known_here : IsSure M K.rank r.statement vs → IsKnownIn M K.rank (values ++ vs) (length values) 0 right
    free_right_known_here q =
        right_known M run.accepted run.sorted K.rank number ss vs right w r 0 (length values) (values ++ vs) (drop-append_seam values vs)
        (free_values_known M run.accepted run.sorted K.rank number ss vs right w r q.operator q.patterns q.left q.free q.found (at_term ms h.stand w h.leads h.hand).canonical h.job)

module _ (K : Run) (sig : Signature) (run : IsRun K sig) (count : ℕ) where
  -- The statement is applied: its right side is in hand. What shows its condition is kept before.
  pub fires_so : (b : Bool) (m n : Data) (number : ℕ) (ss : List Move) (es vs : List RawTerm) (right w : RawTerm) → MayFire K b count m number ss vs right w → n.frames ≡ m.frames → n.done ≡ m.done → n.jobs ≡ m.jobs → n.values ≡ m.values ++ (es ++ vs)
      → n.moves ≡ m.moves ++ (ss ++ applies number (is_rule K.over number) (meant K.over.signature (zip (variables_of K.over number) vs)) vs ∷ []) → HasInHand (after_one b K) (suc count) n (evaluated K.over.signature vs right)
  fires_so b m n number ss es vs right w h ef ed ej ev em =
      let M : Module = K.over in
      let here : Signature = K.over.signature in
      let r = h.redex in
      let z = h.stands in
      let S : Stand = z.in_hand.stand in
      let v : RawTerm = made M run.accepted run.sorted K.rank number ss vs right w r in
      let e : evaluated here vs right ≡ normal_form here v = right_is M run.accepted run.sorted K.rank number ss vs right w r in
      let a : IsAdmitted here (plug (round here S.opens) v) =
      admitted_here K sig run count m w z.in_hand z.seen v (made_comes M run.accepted run.sorted K.rank number ss vs right w r)
      (subst (λ u. hole_level here m.frames u + height u ≤ 1000) e z.low) (ap (λ u. has_largest here (whole here S.opens u)) (sym e) ∙ z.small) in
      let f = fires K run.accepted run.sorted count number ss vs right w r b h.rule m.moves S h.free run.start z.in_hand.leads z.in_hand.hand (seen_there K sig run count m w z.in_hand z.seen) a in
      let is_it : at_number M.statements number ≡ Some r.statement = r.is_there.is_there in
      let k : is_rule M number ≡ b = ap (λ o. unwrap_or (option_map (λ (e : Statement). e.rule) o) false) is_it ∙ h.rule in
      let l : variables_of M number ≡ r.statement.variables = ap (λ o. unwrap_or (option_map (λ (e : Statement). e.variables) o) []) is_it in
      let q : applies number b (meant here (zip r.statement.variables vs)) vs ≡ applies number (is_rule M number) (meant here (zip (variables_of M number) vs)) vs =
      ap (λ c. applies number c (meant here (zip r.statement.variables vs)) vs) (sym k) ∙ ap (λ ys. applies number (is_rule M number) (meant here (zip ys vs)) vs) (sym l) in
      so_in_hand (after_one b K) sig (run_after b K sig run) (suc count) m n (es ++ vs) _ (evaluated here vs right)
      (replaced_here K sig run count m w z.in_hand b (evaluated here vs right) (es ++ vs) _ f)
      ef ed ej ev (em ∙ ap (λ n. m.moves ++ (ss ++ n ∷ [])) (sym q))
