-- A choice is an equation that applies, and a step by a row one that is met.
use Rattle.std.specs.Prelude.{IsNone, MatchOption, slice_get, false, ◌≡◌, ◌-◌, ◌^◌, ◌||◌, min, ℕ, zero, suc, List, [], ◌∷◌, length, Option, Some, None, IsTrue, IsFalse, refl}
use Rattle.std.specs.List.{zip}
use Rattle.std.proofs.Common.{sym, subst, ap, ◌∙◌, inl, inr, ⊎_elim}
use Rattle.std.proofs.Math.Bool.{or-false}
use Rattle.std.proofs.lemmas.Bool.{both_ways, or_cases}
use Rattle.mw_logic.specs.Term.{Variable, RawTerm, RawTerms, numeral, quoted, variable, apply, cons}
use Rattle.mw_logic.specs.Term as term
use Rattle.mw_logic.specs.Signature.{Signature}
use Rattle.mw_logic.specs.NormalForm.{normal_form, height, has_largest}
use Rattle.mw_logic.specs.Accepted.{IsAccepted}
use Rattle.mw_logic.specs.Parts.{nested}
use Rattle.mw_logic.specs.Substitution.{Substitution, value, occurs, IsSubstitution, Extends}
use Rattle.mw_canon.specs.Canonical.{meant}
use Rattle.mw_logic.specs.Module.{Fragment, Module, Statement, IsStatement}
use Rattle.mw_logic.specs.Proof.{nil}
use Rattle.mw_logic.specs.Judgements.{AdmittedStep, FailsAbove, IsNormalBy, admitted_judgements, judgements_with}
use Rattle.mw_logic.proofs.Admitted.{admitted-iff}
use Rattle.mw_logic.proofs.Canonical.{IsCanonical, canonical}
use Rattle.mw_logic.proofs.CanonicalTerms.{fixed, clean as form_clean}
use Rattle.mw_logic.proofs.Invariance.{normal_form-kept}
use Rattle.mw_deduction.proofs.Extended.{reached_extends}
use Rattle.mw_deduction.proofs.Frontiers.{Held_before}
use Rattle.mw_solving.proofs.Grounds.{nested_ground}
use Rattle.mw_builtin.specs.Steps as rows
use Rattle.mw_position.specs.Positions.{fill}
use Rattle.mw_position.specs.Variables.{is_in, met, placed, sorts_of, AreDistinct}
use Rattle.mw_position.proofs.Placing.{values_of}
use Rattle.mw_pattern.specs.Clean.{clean}
use Rattle.mw_least.specs.Conditions.{occurs_among, binds_among}
use Rattle.mw_least.specs.Workable.{IsOrdinary, IsWorkable}
use Rattle.mw_least.proofs.Mentioned.{is_mentioned}
use Rattle.mw_index.specs.Choices.{IsTaken, in_order, tried_of}
use Rattle.mw_index.specs.Conditions.{AreTests, all_bound}
use Rattle.mw_index.specs.declared.conditions.Test.{Test}
use Rattle.mw_index.proofs.Bound.{bound_distinct, bound_variables_are, unconditional_variables}
use Rattle.mw_index.proofs.ByTest.{of_none, put_in_order}
use Rattle.mw_index.proofs.Sides.{lefts_distinct, in_lefts, left_raw, variables_distinct}
use Rattle.mw_index.proofs.Trying.{one_statement}
use Rattle.mw_index.specs.Oriented.{IsLeft, HasFreeLeft}
use Rattle.mw_index.specs.Index.{operator_of}
use Rattle.mw_canon.specs.Free.{IsFree}
use Rattle.mw_index.specs.declared.choices.Choice.{Choice}
use Rattle.mw_index.specs.declared.oriented.Left.{Left}
use Rattle.mw_index.specs.declared.oriented.Left.TheVariants.{Plain, Searched}
use Rattle.mw_frames.specs.Redex.{AreShowing, IsRedex, IsRowOf}
use Rattle.mw_deduction.specs.Replay.{Move, all_sides, begun_sides}
use Rattle.mw_frames.specs.Fires.{IsPartTaken, IsApplied, IsSure}
use Rattle.mw_frames.specs.declared.applying.Applied.{Applied}
use Rattle.mw_frames.specs.Machines.{all_moves as trail_moves}
use Rattle.mw_frames.specs.State.{Run, Data, IsRun}
use Rattle.mw_frames.specs.Steps.{asked_term}
use Rattle.mw_frames.specs.declared.looking.Asked.{Asked}
use Rattle.mw_frames.proofs.PartsAsked.{asked_admitted, asked_part_value}
use Rattle.mw_frames.proofs.PlacedTerms.{instance_placed, left_small}
use Rattle.mw_index.specs.declared.index.Index.{Index}
use Rattle.mw_index.specs.declared.choices.Choices.{Choices}
use Rattle.mw_trail.specs.Tracks.{Track}
use Rattle.mw_proof.specs.declared.reason.Reason.{Reason}
use Rattle.mw_proof.specs.declared.reason.Reason.TheVariants as reason
use Rattle.mw_reduce.specs.Turns.{IsFailed, IsFound}
use Rattle.mw_reduce.specs.Attempts.{IsAppliedAs, IsTriable, IsMade, IsCause, IsHaltingAt}
use Rattle.mw_reduce.specs.Evaluations.{AreBoundTo, bound_to, AreFound, proofs_of, starts_of, all_moves, IsHeldBy, IsStoppedInside}
use Rattle.mw_reduce.specs.declared.sides.Reduced.{Reduced}
use Rattle.mw_reduce.proofs.Evidence.{none_begun, evidence_shows}
use Rattle.mw_reduce.proofs.Values.{normal_above, reordered_extends, reordered_found, reordered_bound}

-- values that were put in order
pub in_their_order : {vs us : List RawTerm} (ws : List RawTerm) (o : Option (List ℕ)) → MatchOption o (vs ≡ ws) (λ ns. vs ≡ in_order ws ns) → MatchOption o (ws ≡ us) (λ ns. in_order ws ns ≡ us) → vs ≡ us
in_their_order ws None a b = a ∙ b
in_their_order ws (Some ns) a b = a ∙ b

taken_same : (sig : Signature) (o : Option (List ℕ)) (t w : RawTerm) → IsTaken sig o t w → IsPartTaken sig o t w
taken_same sig None t w h = h
taken_same sig (Some ks) t w h = record { takes = h.takes; proper = h.proper }

length_sorts : (xs : List Variable) → length (sorts_of xs) ≡ length xs
length_sorts [] = refl
length_sorts (x ∷ xs) = ap suc (length_sorts xs)

free_left : (sig : Signature) (top : Option ℕ) (e : Statement) (l : Left) → IsLeft sig top e l → HasFreeLeft sig l
    → (f : ℕ) × (ps : RawTerms) × (apply f ps ≡ placed (met [] e.left) (normal_form sig e.left)) × IsFree sig (apply f ps)
free_left sig None e (Plain ps) h k = absurd h
free_left sig (Some f) e (Plain ps) h k = (f, ps, h.pattern, (h.plain, k))
free_left sig top e (Searched s) h k = absurd k

-- a condition that fails in the rank above that of its sides
pub fails_above : (M : Module) (m : ℕ) (C : List Fragment) (s : Substitution) → FailsAbove M (admitted_judgements M m) C s → (admitted_judgements M (suc m)).Fails C s
unfolding judgements_with
fails_above M m C s h = h

-- no condition, no evidence
pub nothing_held : (M : Module) (n : ℕ) (C : List Fragment) (s : Substitution) → C ≡ [] → (admitted_judgements M n).Held C s nil s
unfolding judgements_with
nothing_held M n C s e = subst (λ D. (admitted_judgements M n).Held D s nil s) (sym e) (by_rank n)
  where
    by_rank : (n : ℕ) → (admitted_judgements M n).Held [] s nil s
    by_rank zero = (refl, refl)
    by_rank (suc n) = (refl, refl)

-- without a condition nothing is shown
nothing_shown : (M : Module) (n : ℕ) (C : List Fragment) (s : Substitution) → C ≡ [] → AreShowing M n C s s []
nothing_shown M n C s e S B stands rank ready = record {
  starts = λ q x. none_begun M S stands.0 ready ∙ ap (λ D. begun_sides M.signature q (all_sides D)) (sym e);
  evidence = nil;
  waiting = S;
  may = tt;
  plays = refl;
  waits = record { rank = refl; from = refl; opens = refl; hand = refl; entered = refl; done = refl; ready = ready };
  holds = nothing_held M n C s e;
}

-- each variable stands in the left side then
left_alone : (sig : Signature) (e : Statement) → IsOrdinary sig e → e.fragments ≡ [] → (x : Variable) → IsTrue (is_in x e.variables) → IsFalse (occurs x e.left) → ⊥
left_alone sig e is none x h k =
    both_ways _ k (⊎_elim (λ o. o) (λ o. subst (λ C. IsTrue (binds_among (λ y. occurs y e.left) C x)) none (is.bound x o)) (or_cases (occurs x e.left) (occurs x e.right) within))
  where
    within : IsTrue (occurs x e.left || occurs x e.right)
    within = sym (or-false (occurs x e.left || occurs x e.right)) ∙ ap (λ C. (occurs x e.left || occurs x e.right) || occurs_among x C) (sym none) ∙ sym (is_mentioned e x) ∙ ap (is_in x) (sym is.variables) ∙ h

module _ (M : Module) (work : IsWorkable M) (t : RawTerm) (c : Choice) (h : IsTriable M t c) where
  abbrev sig : Signature
  sig = M.signature

  abbrev ok : IsAccepted sig
  ok = work.signature.accepted

  abbrev e : Statement
  e = h.choice.statement

  abbrev number : ℕ
  number = c.by.now.number

  abbrev there : IsStatement M number e
  there = h.choice.is_there

  abbrev lefts : List Variable
  lefts = met [] e.left

  abbrev tests : List Test
  tests = c.by.now.condition.tests

  abbrev us : List RawTerm
  us = c.values.items

  abbrev s : Substitution
  s = bound_to sig lefts us

  abbrev w : RawTerm
  w = h.choice.part

  canonical_part : IsCanonical sig w
  canonical_part = subst (IsCanonical sig) h.admitted.canonical (canonical sig ok (nested sig w))

  size : length us ≡ length lefts
  size = h.sized ∙ ap length h.choice.is.sorts ∙ length_sorts lefts

  -- the values of the left side's variables
  pub left_bound : AreBoundTo M lefts us
  left_bound = record {
    size = size;
    values = h.choice.values;
    substitution = h.choice.solution.substitution;
    small = left_small sig ok lefts us (lefts_distinct e) size e.left w (left_raw M work number e there) (λ x i. sym (in_lefts e x) ∙ i)
        (instance_placed sig lefts (lefts_distinct e) us size ok work.signature.well_sorted h.choice.values h.choice.solution.substitution e.left (left_raw M work number e there) (λ x o. in_lefts e x ∙ o)
        ∙ normal_form-kept sig ok h.choice.solution.matches ∙ h.admitted.canonical)
        (subst (λ v. has_largest sig v ≡ false) h.admitted.canonical ((admitted-iff sig ok h.admitted.raw).0 h.admitted.admitted).2);
  }

  no_fragments : tests ≡ [] → e.fragments ≡ []
  no_fragments none = of_none sig lefts e.fragments (subst (AreTests sig lefts e.fragments) none h.choice.is.condition.tests)

  -- without a condition it applies
  pub made_at_once : (n : ℕ) → tests ≡ [] → IsMade M n t c []
  made_at_once n bare =
      let ordinary = work.statements number e there in
      let none : e.fragments ≡ [] = no_fragments bare in
      let all : e.variables ≡ lefts = unconditional_variables M work number e there none in
      let same : s ≡ meant sig (zip e.variables us) = ap (λ xs. meant sig (zip xs us)) (sym all) in
      record {
        part = w;
        taken = taken_same sig c.take t w h.choice.taken;
        rule = sym h.choice.is.rule;
        redex = record {
          statement = e;
          is_there = there;
          ordinary = ordinary;
          sides = work.sides number e there.is_there;
          size = size ∙ ap length (sym all);
          values = h.choice.values;
          substitution = subst (IsSubstitution sig) same h.choice.solution.substitution;
          solution = s;
          solves = h.choice.solution;
          reached = s;
          shown = nothing_shown M n e.fragments s none;
          goes_on = λ x u k. k;
          reaches = λ x u k. subst (λ q. value q x ≡ Some u) same k;
          found = λ x i k. absurd (left_alone sig e ordinary none x i k);
          right = h.choice.is.right;
        };
        free = h.choice.is.free;
        levels = h.choice.is.levels;
        sure = λ k no.
            let (f, ps, left, free) = free_left sig (operator_of t) e c.by.now.left h.choice.is.left (h.choice.is.sure k) in
            record { operator = f; patterns = ps; left = left ∙ ap (λ xs. placed xs (normal_form sig e.left)) (sym all); free = free; found = λ x z k. absurd (left_alone sig e ordinary none x z k) };
      }

  -- where its condition holds, by values of all variables that are put in order
  pub made_so : (m : ℕ) (x : Test) → slice_get tests 0 ≡ Some x → (new : Choice) → new ≡ record c { values = new.values } → (ws : List RawTerm) (sides : List Reduced) (trails : List Track) → IsHeldBy M m e tests s ws sides → trail_moves M trails ≡ all_moves M sides
      → MatchOption c.by.now.condition.order (new.values.items ≡ ws) (λ ns. new.values.items ≡ in_order ws ns) → IsMade M (suc m) t new trails
  made_so m x some new is_new ws sides trails held shows put =
      let bs : List Variable = all_bound lefts tests in
      let xs : List Variable = e.variables in
      let condition = h.choice.is.condition in
      let r : Substitution = bound_to sig bs ws in
      let distinct : AreDistinct bs = bound_distinct M work number e there tests condition.tests in
      let vs : List RawTerm = new.values.items in
      let ordered : vs ≡ values_of (zip bs ws) xs = in_their_order ws c.by.now.condition.order put (put_in_order M work number e there c.by.now.condition condition ws held.bound.size) in
      let alike : (y : Variable) → is_in y xs ≡ is_in y bs = λ y. sym (bound_variables_are M work number e there tests condition.tests y) in
      let bound : AreBoundTo M xs vs = subst (AreBoundTo M xs) (sym ordered) (reordered_bound M ok bs ws held.bound xs alike (variables_distinct M work number e there)) in
      let by : new.by ≡ c.by = ap (λ (q : Choice). q.by) is_new in
      let taking : new.take ≡ c.take = ap (λ (q : Choice). q.take) is_new in
      let redex : IsRedex M (suc m) number (trail_moves M trails) vs (clean c.by.now.right) w = record {
        statement = e;
        is_there = there;
        ordinary = work.statements number e there;
        sides = work.sides number e there.is_there;
        size = bound.size;
        values = bound.values;
        substitution = bound.substitution;
        solution = s;
        solves = h.choice.solution;
        reached = r;
        shown = subst (AreShowing M (suc m) e.fragments s r) (sym shows) (evidence_shows M (suc m) e.fragments s r (proofs_of M m sides) (starts_of M sides) (all_moves M sides) held.shown.evidence (Held_before M (AdmittedStep M) m e.fragments s (proofs_of M m sides) r held.holds) held.starts);
        goes_on = reached_extends M (admitted_judgements M m) e.fragments s (proofs_of M m sides) r held.holds;
        reaches = subst (λ us. Extends r (bound_to sig xs us)) (sym ordered) (reordered_extends M ok bs ws held.bound xs alike);
        found = λ y i k. ⊎_elim (λ z. inl (normal_above M m _ z)) (λ z. inr z) (subst (AreFound M m e.left xs) (sym ordered) (reordered_found M ok bs ws held.bound xs alike m e.left held.found) y i k);
        right = h.choice.is.right;
      } in
      let (redex', same) = subst (λ q. (r : IsRedex M (suc m) q.now.number (trail_moves M trails) vs (clean q.now.right) w) × (r.statement ≡ e)) (sym by) (redex, refl) in
      record {
        part = w;
        taken = subst (λ o. IsPartTaken sig o t w) (sym taking) (taken_same sig c.take t w h.choice.taken);
        redex = redex';
        rule = ap (λ (st : Statement). st.rule) same ∙ sym h.choice.is.rule ∙ ap (λ q. q.now.rule) (sym by);
        free = λ k. subst (λ q. IsTrue q.now.free → IsFree sig (clean q.now.right)) (sym by) h.choice.is.free k;
        levels = subst (λ q. q.now.levels ≡ min (height (fill [] (clean q.now.right))) (2 ^ 16 - 1)) (sym by) h.choice.is.levels;
        sure = λ k none. absurd (none_first tests x some (sym (ap (λ q. q.now.condition.tests) by) ∙ none));
      }
    where
      none_first : (ts : List Test) (x : Test) → slice_get ts 0 ≡ Some x → ts ≡ [] → ⊥
      none_first [] x some n = cc
      none_first (t ∷ ts) x some n = cc

  -- where it fails, it fails for each statement of this number
  pub failed_so : (m : ℕ) → FailsAbove M (admitted_judgements M m) e.fragments s → (d : Statement) → IsStatement M number d → IsFailed M (suc m) (tried_of c) d
  failed_so m f d is = subst (IsFailed M (suc m) (tried_of c)) (one_statement M number e d there is) (record { substitution = h.choice.solution.substitution; fails = fails_above M m e.fragments s f })

  -- it isn't told
  halting_at : (n side : ℕ) (why : Reason) → IsCause M n side e.fragments s why → IsHaltingAt M c.by.now.rule n side t c.take why
  halting_at n side why cause = record {
    part = w;
    taken = taken_same sig c.take t w h.choice.taken;
    raw = h.admitted.raw;
    clean = form_clean sig ok w canonical_part;
    is = h.admitted.canonical;
    halting = record { number = number; statement = e; is_there = there; rule = sym h.choice.is.rule; ordinary = work.statements number e there; solution = s; solves = h.choice.solution; cause = cause };
  }

  pub too_many : (side : ℕ) (x : Test) → slice_get tests 0 ≡ Some x → IsHaltingAt M c.by.now.rule 0 side t c.take reason.Nest
  too_many side x some = halting_at 0 side reason.Nest (refl, λ none. some_test tests x some (subst (λ C. AreTests sig lefts C tests) none h.choice.is.condition.tests))
    where
      some_test : (ts : List Test) (x : Test) → slice_get ts 0 ≡ Some x → AreTests sig lefts [] ts → ⊥
      some_test [] x some a = cc
      some_test (t ∷ ts) x some a = a

  pub stopped_so : (m side : ℕ) (why : Reason) → IsStoppedInside M m side e.fragments s why → IsHaltingAt M c.by.now.rule (suc m) side t c.take reason.Condition
  stopped_so m side why stopped = halting_at (suc m) side reason.Condition (m, refl, why, stopped)

row_taken : (sig : Signature) (o : Option (List ℕ)) (t w : RawTerm) → rows.IsTaken sig o t w → IsPartTaken sig o t w
row_taken sig None t w h = h
row_taken sig (Some ks) t w h = record { takes = h.0; proper = h.1 h.0.operator h.0.args h.0.term }

pub row_applies : (M : Module) → IsAccepted M.signature → (n : ℕ) (t : RawTerm) (take : Option (List ℕ)) (to : RawTerm) → rows.IsGiven M.signature (IsNormalBy M (admitted_judgements M n).Fails) t take to
    → (w : RawTerm) × IsPartTaken M.signature take t w × IsRowOf M n w to
row_applies M ok n t take to g = (
  g.is_form.part,
  row_taken M.signature take t g.is_form.part g.is_form.taken,
  record {
    form = g.form;
    raw = g.is_form.raw;
    clean = g.is_form.clean;
    is = g.is_form.is;
    row = g.meets;
    value = record {
      canonical = subst (IsCanonical M.signature) g.term.canonical (canonical M.signature ok (nested M.signature to));
      raw = g.term.raw;
      ground = nested_ground M.signature to ∙ g.term.ground;
    };
  },
)

-- the same of the whole term
pub whole_row_applies : (M : Module) → IsAccepted M.signature → (n : ℕ) (t : RawTerm) (take : Option (List ℕ)) (to : RawTerm) → IsNone take → rows.IsGiven M.signature (IsNormalBy M (admitted_judgements M n).Fails) t take to
    → IsRowOf M n t to
whole_row_applies M ok n t None to none g = let (w, part, row) = row_applies M ok n t None to g in subst (λ u. IsRowOf M n u to) part row
whole_row_applies M ok n t (Some ks) to none g = cc

pub big_taken : (sig : Signature) (t : RawTerm) (take : Option (List ℕ)) → (b : rows.IsTooBigAt sig t take) → IsPartTaken sig take t b.is_form.part
big_taken sig t take b = row_taken sig take t b.is_form.part b.is_form.taken

-- what applies, as the machine takes it
pub applied_so : (M : Module) (n : ℕ) (t : RawTerm) (c : Choice) (sides : List Track) → (made : IsMade M n t c sides) → (a : Applied) → IsAppliedAs c.by.now a → IsApplied M n a (trail_moves M sides) c.values.items made.part
applied_so M n t c sides made a is =
    let ms : List Move = trail_moves M sides in
    let vs : List RawTerm = c.values.items in
    let (redex, same) =
    subst (λ k. (r : IsRedex M n k ms vs (clean a.right.now) made.part) × (r.statement ≡ made.redex.statement)) (sym is.number)
    (subst (λ p. (r : IsRedex M n c.by.now.number ms vs (clean p) made.part) × (r.statement ≡ made.redex.statement)) (sym is.right) (made.redex, refl)) in
    record {
      redex = redex;
      rule = ap (λ (st : Statement). st.rule) same ∙ made.rule ∙ sym is.rule;
      free = λ k. subst (λ p. IsFree M.signature (clean p)) (sym is.right) (made.free (sym is.free ∙ k));
      levels = is.levels ∙ made.levels ∙ ap (λ p. min (height (fill [] (clean p))) (2 ^ 16 - 1)) (sym is.right);
      sure = λ k. let (z, none) = is.sure k in subst (λ st. IsSure M n st vs) (sym same) (made.sure z none);
    }

-- what turns find may be tried
pub found_triable : (K : Run) (sig : Signature) → IsRun K sig → (count : ℕ) (m : Index) (d : Data) (rest : Choices) (a : Asked) (c : Choice) → IsFound K count m d rest a c → IsTriable K.over (asked_term d a) c
found_triable K sig run count m d rest a c f =
    let w : RawTerm = f.choice.part in
    let part : IsPartTaken K.over.signature c.take (asked_term d a) w = taken_same K.over.signature c.take (asked_term d a) w f.choice.taken in
    let v = asked_part_value K sig run count d a f.asked c.take w part in
    record { choice = f.choice; sized = f.sized; admitted = record { raw = v.raw; canonical = fixed K.over.signature run.accepted w v.canonical; admitted = asked_admitted K sig run count d a f.asked c.take w part } }
