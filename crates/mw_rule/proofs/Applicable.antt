-- A rule that applies at a place of a normal term: what it leaves, and the deduction of the one step.
use Rattle.std.specs.Prelude.{◌≡◌, ◌≤◌, ◌⊎◌, ℕ, List, [], ◌∷◌, ◌++◌, length, true, false, Option, Some, None, MatchOption, slice_get, refl}
use Rattle.std.specs.List.{zip}
use Rattle.std.proofs.Common.{sym, subst, ap, ◌∙◌, arith, ⊎_elim}
use Rattle.std.proofs.lemmas.List.{append-nil}
use Rattle.std.proofs.lemmas.Option.{same_Some}
use Rattle.mw_logic.specs.Term.{RawTerm, RawTerms, apply}
use Rattle.mw_logic.specs.Terms.{terms_of}
use Rattle.mw_logic.specs.Signature.{Signature}
use Rattle.mw_logic.specs.Accepted.{IsAccepted}
use Rattle.mw_logic.specs.Parts.{nested}
use Rattle.mw_logic.specs.NormalForm.{normal_form, height, has_largest, some_largest}
use Rattle.mw_logic.specs.CanonicalPart.{IsOpen, IsPartOf}
use Rattle.mw_logic.specs.Substitution.{instance}
use Rattle.mw_logic.specs.Module.{Module, Statement, IsStatement}
use Rattle.mw_logic.specs.Judgements.{Proves}
use Rattle.mw_logic.specs.Proof.{rules, steps}
use Rattle.mw_logic.proofs.Admitted.{admitted-iff}
use Rattle.mw_logic.proofs.Canonical.{IsCanonical, canonical}
use Rattle.mw_logic.proofs.CanonicalTerms.{fixed}
use Rattle.mw_logic.proofs.PartsOfNormalForm.{part_found, part_from_replacing}
use Rattle.mw_canon.specs.Canonical.{IsAdmittedTerm, meant}
use Rattle.mw_pattern.specs.Clean.{clean}
use Rattle.mw_matching.specs.Matches.{evaluated}
use Rattle.mw_deduction.specs.Replay.{begun}
use Rattle.mw_deduction.proofs.NormalParts.{part_admitted}
use Rattle.mw_trail.specs.Tracks.{Track, moves}
use Rattle.mw_redex.specs.Paths.{at_path}
use Rattle.mw_redex.specs.Replaced.{IsTaken, IsOpenArgument, IsOpenWay, way_of_place, replaced_at}
use Rattle.mw_redex.proofs.Standing.{place_in_term}
use Rattle.mw_proof.specs.Deductions.{IsKept, deduced}
use Rattle.mw_least.specs.Workable.{IsWorkable}
use Rattle.mw_solving.specs.Values.{IsValue}
use Rattle.mw_solving.proofs.Admitted.{admitted_value}
use Rattle.mw_index.specs.Conditions.{IsSideOf}
use Rattle.mw_index.specs.declared.choices.Choice.{Choice}
use Rattle.mw_index.specs.declared.conditions.Side.{Side}
use Rattle.mw_index.proofs.Staying.{top_value}
use Rattle.mw_frames.specs.State.{Run, with_rules, Data, IsRun}
use Rattle.mw_frames.specs.Steps.{IsEnd}
use Rattle.mw_frames.specs.Fires.{IsPartTaken, IsWhole, WouldBeTooDeep, WouldBeTooLarge}
use Rattle.mw_frames.specs.Redex.{IsRedex}
use Rattle.mw_frames.specs.Machines.{data_of, all_moves}
use Rattle.mw_frames.specs.declared.machine.Machine.{Machine}
use Rattle.mw_frames.proofs.RightSides.{distinct_here, right_here, right_is}
use Rattle.mw_frames.proofs.SmallValues.{redex_small}
use Rattle.mw_reduce.specs.Evaluations.{AreBoundTo, AreAsked, run_of, nothing}
use Rattle.mw_reduce.proofs.Reduced.{is_run, whole_kept, its_proof, proves_it, counted, rules_counted}
use Rattle.mw_reduce.proofs.SideRuns.{side_begins}
use Rattle.mw_redexes.specs.Spots.{IsSpot, AreWays}
use Rattle.mw_rule.specs.Stepped.{IsMadeAt}
use Rattle.mw_rule.specs.Applications.{IsApplicable, IsPast, IsOneStep, IsStepTo, IsStepBy, with_right}
use Rattle.mw_rule.specs.declared.one_step.OneStep.{OneStep}
use Rattle.mw_rule.specs.declared.one_step.OneStep.TheVariants.{Deep, Nat}
use Rattle.mw_redexes.specs.declared.spots.Spot.{Spot}
use Rattle.mw_redexes.proofs.Everywhere.{value_reached}
use Rattle.mw_rule.proofs.Limits.{put_within}
use Rattle.mw_redexes.proofs.Reaching.{part_reached, open_top}
use Rattle.mw_redexes.proofs.Ways.{way_last}

-- what is taken at the end of a place
taken_at_end : (sig : Signature) (take : Option (List ℕ)) (u w : RawTerm) → IsPartTaken sig take u w → IsTaken sig take u w
taken_at_end sig None u w h = sym h
taken_at_end sig (Some ks) u w h = h.takes

-- the way of a place goes on from its path
way_on : (sig : Signature) (take : Option (List ℕ)) (path : List ℕ) (t : RawTerm) → IsOpenWay sig true (way_of_place path take) t → (rest : List ℕ) × IsOpenWay sig true (path ++ rest) t
way_on sig None path t h = ([], subst (λ ks. IsOpenWay sig true ks t) (sym (append-nil path)) h)
way_on sig (Some ks) path t h = (1 ∷ [], h)

free_there : (sig : Signature) (take : Option (List ℕ)) (path : List ℕ) (t u : RawTerm) → at_path t path ≡ Some u → IsOpenWay sig true (way_of_place path take) t
    → (ks : List ℕ) (f : ℕ) (ts : RawTerms) → take ≡ Some ks → u ≡ apply f ts → IsOpen sig true f 1
free_there sig take path t u there way ks f ts e is =
    subst (λ v. IsOpenArgument sig true v 1) is (way_last sig path 1 t u there (subst (λ o. IsOpenWay sig true (way_of_place path o) t) e way))

-- what is kept of one step by a rule, where nothing is under way any more
module _ (M : Module) (work : IsWorkable M) (t : RawTerm) (a : IsAdmittedTerm M.signature t) where
  abbrev behind : Run
  behind = with_rules 1 (run_of M 63 t)

  pub run_behind : IsRun behind M.signature
  run_behind = let z = is_run M work 63 t a in record { signature = z.signature; accepted = z.accepted; sorted = z.sorted; well = z.well; start = z.start }

  pub step_kept : (k : Track) (d : Data) (v : RawTerm) → d.moves ≡ moves M k → IsWhole behind 1 d v → IsKept M 63 t v k × IsOneStep M t v (deduced M 63 t v k)
  step_kept k d v is f =
      let low : 63 ≤ 63 = omega arith in
      let tree = its_proof M work 63 low t a 1 k 1 d v is f in (
        whole_kept M work 63 low t a 1 k 1 d v is f,
        record {
          over = refl;
          rank = refl;
          from = refl;
          to = refl;
          proves = subst (λ p. Proves M 63 p (nested M.signature t) (nested M.signature v)) (sym tree) (proves_it M work 63 low t a 1 k 1 d v is f);
          one = ap steps tree ∙ counted M work 63 low t a 1 k 1 d v is f;
          by_rule = ap rules tree ∙ rules_counted M work 63 low t a 1 k 1 d v is f;
        },
      )

module _ (M : Module) (work : IsWorkable M) (t : RawTerm) (path : List ℕ) (c : Choice) (sides : List Track) (h : IsApplicable M t path c sides) where
  abbrev sig : Signature
  sig = M.signature

  abbrev ok : IsAccepted sig
  ok = work.signature.accepted

  abbrev us : List RawTerm
  us = c.values.items

  abbrev right : RawTerm
  right = clean c.by.now.right

  abbrev w : RawTerm
  w = h.made.part

  abbrev r : IsRedex M 63 c.by.now.number (all_moves M sides) us right w
  r = h.made.redex

  abbrev e : Statement
  e = r.statement

  -- the instance of the right side, and what comes of the whole
  abbrev pub x : RawTerm
  x = normal_form sig (instance (meant sig (zip e.variables us)) e.right)

  abbrev pub u : RawTerm
  u = with_right M t path c.take e us

  pub admitted_whole : IsAdmittedTerm sig t
  admitted_whole = record { raw = h.normal.raw; canonical = h.normal.canonical; admitted = h.normal.normal.admitted }

  -- what is taken is a part that rules may change
  part_taken : IsPartOf sig true t w
  part_taken = part_from_replacing (place_in_term sig ok true w w t (replaced_at sig path c.take w t) path c.take h.normal.canonical
      (record { part = record { end = h.end; there = h.there; taken = taken_at_end sig c.take h.end w h.made.taken }; open_way = h.open_way; becomes = refl }))

  value_taken : IsValue sig w
  value_taken =
      let (v, reached, top) = part_reached sig t t w Rattle.mw_redexes.specs.Spots.IsReached.itself part_taken in
      top_value sig ok v w (open_top sig v w top) (value_reached sig ok t v (admitted_value sig ok t admitted_whole) reached)

  small_taken : has_largest sig w ≡ false
  small_taken =
      let (C, free, part) = part_found sig ok {by_rule = true} {t = nested sig t} w h.normal.raw (subst (λ y. IsPartOf sig true y w) (sym h.normal.canonical) part_taken) in
      let fix : normal_form sig (nested sig w) ≡ w = fixed sig ok w value_taken.canonical in
      subst (λ y. has_largest sig y ≡ false) fix ((admitted-iff sig ok value_taken.raw).0 (part_admitted sig ok C (nested sig w) h.normal.raw h.normal.normal.admitted part)).2

  small_values : some_largest sig (terms_of us) ≡ false
  small_values = redex_small M ok work.signature.well_sorted 63 c.by.now.number (all_moves M sides) us right w r value_taken.canonical small_taken

  right_comes : evaluated sig us right ≡ x
  right_comes = right_is M ok work.signature.well_sorted 63 c.by.now.number (all_moves M sides) us right w r

  -- the instance is admitted, within the limits
  instance_admitted : height (evaluated sig us right) ≤ 1000 → has_largest sig (evaluated sig us right) ≡ false → IsAdmittedTerm sig (evaluated sig us right)
  instance_admitted low small =
      let bound : AreBoundTo M e.variables us = record { size = r.size; values = r.values; substitution = r.substitution; small = small_values } in
      let asked : AreAsked sig e.variables e.right = record {
        raw = r.sides.right;
        among = right_here M ok work.signature.well_sorted 63 c.by.now.number (all_moves M sides) us right w r;
        distinct = distinct_here M ok work.signature.well_sorted 63 c.by.now.number (all_moves M sides) us right w r;
      } in
      let side : Side = record { pattern = c.by.now.right; free = false } in
      let is : IsSideOf sig e.variables e.right side = record { pattern = r.right; free = λ z. cc } in
      (side_begins M work e.variables us bound e.right asked side is (evaluated sig us right) refl low small).0

  -- where the instance is past the limits the whole is
  whole_past : IsPast sig (evaluated sig us right) ⊎ IsPast sig (replaced_at sig path c.take (evaluated sig us right) t) → IsPast sig u
  whole_past past = ⊎_elim
      (λ p l. p (subst (λ y. (height y ≤ 1000) × (has_largest sig y ≡ false)) (sym right_comes) (put_within sig ok w x (canonical sig ok (instance (meant sig (zip e.variables us)) e.right)) t u (subst (IsCanonical sig) h.normal.canonical (canonical sig ok (nested sig t)))
      (place_in_term sig ok true w x t u path c.take h.normal.canonical
      (record { part = record { end = h.end; there = h.there; taken = taken_at_end sig c.take h.end w h.made.taken }; open_way = h.open_way; becomes = refl })) l)))
      (λ p. subst (λ y. IsPast sig (replaced_at sig path c.take y t)) right_comes p)
      past

  abbrev pub K : Run
  K = run_of M 63 t

  -- the machine begins at the normal whole
  pub ends_at_first : (first : Machine) → ((N : Module) → data_of N first ≡ nothing) → IsEnd K 0 (data_of M first) t
  ends_at_first first empty =
      subst (λ d. IsEnd K 0 d t) (sym (empty M)) (record {
        stand = begun 63 t;
        leads = record { plays = refl; moves = tt; rank = refl; from = refl; ready = refl; steps = refl; rules = refl };
        closed = refl;
        hand = refl;
        normal = h.normal;
      })

  rest_of_way : (rest : List ℕ) × IsOpenWay sig true (path ++ rest) t
  rest_of_way = way_on sig c.take path t h.open_way

  -- the rule is applied at the end of the way
  made_along : (spots : List Spot) → AreWays sig t spots → (s : Spot) × (slice_get spots (length path) ≡ Some s) × (s.term.now ≡ h.end) → IsMadeAt K spots t (record { at = length path; choice = c }) sides
  made_along spots ways (s, there, is) = record {
    ways = ways;
    spot = s;
    there = there;
    rule = h.rule;
    free = λ ks f ts taken term. free_there sig c.take path t h.end h.there h.open_way ks f ts taken (sym is ∙ term);
    made = subst (λ v. Rattle.mw_reduce.specs.Attempts.IsMade M 63 v c sides) (sym is) h.made;
  }

  abbrev Along : List ℕ → List Spot → Type 0
  Along ks spots = (g : Signature) (end : RawTerm) (rest : List ℕ) → at_path t ks ≡ Some end → IsOpenWay g true (ks ++ rest) t → AreWays g t spots × ((s : Spot) × (slice_get spots (length ks) ≡ Some s) × (s.term.now ≡ end))

  pub fires_along : (ks : List ℕ) → ks ≡ path → (spots : List Spot) → Along ks spots → (parts : List Spot) → parts ≡ spots → (js : List ℕ) → js ≡ path
      → IsMadeAt K parts t (record { at = length js; choice = c }) sides
  fires_along ks way spots along parts same js number =
      let (rest, opens) = rest_of_way in
      let (ways, there) = subst (λ k. Along k spots) way along sig h.end rest h.there opens in
      subst (λ ps. IsMadeAt K ps t (record { at = length js; choice = c }) sides) (sym same)
      (subst (λ k. IsMadeAt K spots t (record { at = length k; choice = c }) sides) (sym number) (made_along spots ways there))

  pub run_there : IsRun K sig
  run_there = is_run M work 63 t admitted_whole

  -- the statement of this number is the one that applies
  same_statement : (d : Statement) → IsStatement M c.by.now.number d → e ≡ d
  same_statement d is = same_Some e d (sym r.is_there.is_there ∙ is.is_there)

  -- the same by what the signature and the values are named
  pub small_at : (g : Signature) → g ≡ sig → (vs : List RawTerm) → vs ≡ us → some_largest g (terms_of vs) ≡ false
  small_at g eg vs ev = subst (λ k. some_largest k (terms_of vs) ≡ false) (sym eg) (subst (λ ws. some_largest sig (terms_of ws) ≡ false) (sym ev) small_values)

  abbrev MayCome : Signature → List RawTerm → Type 0
  MayCome g vs = height (evaluated g vs right) ≤ 1000 → has_largest g (evaluated g vs right) ≡ false → IsAdmittedTerm g (evaluated g vs right)

  pub admitted_at : (g : Signature) → g ≡ sig → (vs : List RawTerm) → vs ≡ us → MayCome g vs
  admitted_at g eg vs ev = subst (λ k. MayCome k vs) (sym eg) (subst (MayCome sig) (sym ev) instance_admitted)

  abbrev Comes : Signature → List RawTerm → Option RawTerm → Type 0
  Comes g vs o = MatchOption o (IsPast g (evaluated g vs right) ⊎ IsPast g (replaced_at g path c.take (evaluated g vs right) t)) (λ v. v ≡ replaced_at g path c.take (evaluated g vs right) t)

  -- what is made by itself is the whole that comes, or this is past the limits
  abbrev pub IsLeft : Option RawTerm → Type 0
  IsLeft o = MatchOption o (IsPast sig u) (λ v. v ≡ u)

  pub left_at : (g : Signature) → g ≡ sig → (vs : List RawTerm) → vs ≡ us → (o : Option RawTerm) → Comes g vs o → IsLeft o
  left_at g eg vs ev o h = by_option o (subst (λ ws. Comes sig ws o) ev (subst (λ k. Comes k vs o) eg h))
    where
      by_option : (o : Option RawTerm) → Comes sig us o → IsLeft o
      by_option None past = whole_past past
      by_option (Some v) is = is ∙ ap (λ y. replaced_at sig path c.take y t) right_comes

  -- so it is what the rule leaves, whatever its statement is named
  named : (s : OneStep) → IsStepTo M t u s → IsStepBy M t path c s
  named s h d is = subst (λ (st : Statement). IsStepTo M t (with_right M t path c.take st us) s) (same_statement d is) h

  pub step_made : (o : Option RawTerm) → IsLeft o → (s : OneStep) → (v : RawTerm) × (o ≡ Some v) × IsStepTo M t v s → IsStepBy M t path c s
  step_made o h s (v, is, step) = named s (subst (λ z. IsStepTo M t z s) (subst IsLeft is h) step)

  pub step_deep : (o : Option RawTerm) → IsLeft o → WouldBeTooDeep M 63 true (nested sig t) → (s : OneStep) → (s ≡ Deep) × (o ≡ None) → IsStepBy M t path c s
  step_deep o h deep s (same, none) = named s (subst (IsStepTo M t u) (sym same) (subst IsLeft none h, deep))

  pub step_large : (o : Option RawTerm) → IsLeft o → WouldBeTooLarge M 63 true (nested sig t) → (s : OneStep) → (s ≡ Nat) × (o ≡ None) → IsStepBy M t path c s
  step_large o h large s (same, none) = named s (subst (IsStepTo M t u) (sym same) (subst IsLeft none h, large))
