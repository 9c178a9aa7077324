-- A statement is applied to the term in hand.
use Rattle.std.specs.Prelude.{◌≡◌, ◌+◌, ℕ, zero, suc, List, [], ◌∷◌, ◌++◌, Bool, true, false, cond, ◌&&◌, ◌||◌, IsTrue, refl}
use Rattle.std.specs.List.{zip}
use Rattle.std.proofs.Common.{sym, subst, ap, ◌∙◌, arith, true≢false, ⊎_elim}
use Rattle.std.proofs.lemmas.Bool.{and_from, or_cases, or_left, or_right}
use Rattle.mw_logic.specs.Term.{Variable, RawTerm, RawTerms, numeral, quoted, variable, apply, nil, cons, join, Frame, Context, plug, is_ground}
use Rattle.mw_logic.specs.Signature.{Signature, HasKind, of_operator, IsRawTerm, an_operator, AreRawTerms, next}
use Rattle.mw_logic.specs.Accepted.{IsAccepted, IsWellSorted}
use Rattle.mw_logic.specs.Substitution.{Substitution, instance, occurs, occurs_in, is_bound, binds, binds_all, IsSubstitution, Extends}
use Rattle.mw_logic.specs.Parts.{nested, IsAdmitted, IsFrozen}
use Rattle.mw_logic.specs.Module.{Fragment, equal, matches, has_sort, is_true, Module, binds_fragments}
use Rattle.mw_logic.specs.Confluence.{AreBound}
use Rattle.mw_logic.specs.Proof.{Proofs, replacement, rules, steps}
use Rattle.mw_logic.specs.Judgements.{Judgements, HoldsAbove, admitted_judgements, judgements_with}
use Rattle.mw_logic.proofs.Canonical.{IsCanonical}
use Rattle.mw_logic.proofs.CanonicalTerms.{fixed}
use Rattle.mw_logic.proofs.Inside.{raw_inside}
use Rattle.mw_logic.proofs.InstanceLaws.{instance_kind}
use Rattle.mw_logic.proofs.Invariance.{normal_form-kept}
use Rattle.mw_logic.proofs.Lifting.{fill}
use Rattle.mw_logic.proofs.RawKept.{kind_unique, raw_kept}
use Rattle.mw_logic.proofs.Restricted.{instance_ground, AreBound-same}
use Rattle.mw_logic.proofs.SolutionLaws.{instance_raw}
use Rattle.mw_logic.proofs.Soundness.{HasKind-same}
use Rattle.mw_canon.specs.Canonical.{meant}
use Rattle.mw_position.specs.Variables.{is_in}
use Rattle.mw_least.specs.Conditions.{occurs_among, binds_among}
use Rattle.mw_solving.specs.Values.{AreValues}
use Rattle.mw_solving.proofs.Positions.{meant_zip}
use Rattle.mw_matching.specs.Matches.{evaluated}
use Rattle.mw_deduction.specs.Chains.{proof_of}
use Rattle.mw_deduction.specs.Standing.{round, IsSeen, At}
use Rattle.mw_deduction.specs.Runs.{by_statement}
use Rattle.mw_deduction.specs.Replay.{Move, applies, Stand, becomes, replacing, plays, AreMoves, all_sides, begun_sides, beginnings, AreAllCanonical, MayApply}
use Rattle.mw_deduction.specs.Stands.{AreStanding}
use Rattle.mw_deduction.proofs.Extended.{instance_extended, held_extended}
use Rattle.mw_deduction.proofs.Moves.{plays-append, moves-append}
use Rattle.mw_deduction.proofs.MoveStands.{becomes_is}
use Rattle.mw_deduction.proofs.ReadingLaws as reading
use Rattle.mw_frames.specs.State.{Run, after_one, Leads}
use Rattle.mw_frames.specs.Redex.{IsWaiting, IsShown, IsRedex, MayCome}
use Rattle.mw_frames.proofs.RightSides.{kinds_here, left_here, right_here, among_here, all_bound_here, solution_binds, left_matches, right_is}
use Rattle.mw_frames.proofs.Turning.{all_standing, at_hand}

-- a raw term comes for another, and has its kinds
module _ (sig : Signature) (ok : IsAccepted sig) where
  raw_between : (before : RawTerms) (t u : RawTerm) (after : RawTerms) {Ks : List ℕ} → AreRawTerms sig (join before (cons t after)) Ks → IsRawTerm sig u → ((L : ℕ) → HasKind sig t L → HasKind sig u L)
      → AreRawTerms sig (join before (cons u after)) Ks
  raw_between nil t u after (next {K = L} r k rest) s h = next s (h L k) rest
  raw_between (cons b bs) t u after (next r k rest) s h = next r k (raw_between bs t u after rest s h)

  raw_filled : (c : Frame) (t u : RawTerm) → IsRawTerm sig (fill c t) → IsRawTerm sig u → ((L : ℕ) → HasKind sig t L → HasKind sig u L) → IsRawTerm sig (fill c u)
  raw_filled c t u (an_operator o is args) s h = an_operator o is (raw_between c.before t u c.after args s h)

  kinds_filled : (c : Frame) (t u : RawTerm) (L : ℕ) → HasKind sig (fill c t) L → HasKind sig (fill c u) L
  kinds_filled c t u L (of_operator o is k) = of_operator o is k

  pub raw_in_place : (C : Context) (t u : RawTerm) → IsRawTerm sig (plug C t) → IsRawTerm sig u → ((L : ℕ) → HasKind sig t L → HasKind sig u L) → IsRawTerm sig (plug C u)
  raw_in_place [] t u r s h = s
  raw_in_place (c ∷ C) t u r s h = raw_in_place C (fill c t) (fill c u) r (raw_filled c t u (raw_inside sig ok C (fill c t) r) s h) (kinds_filled c t u)

-- values are canonical
all_canonical : (sig : Signature) (vs : List RawTerm) → AreValues sig vs → AreAllCanonical sig vs
all_canonical sig [] h = tt
all_canonical sig (v ∷ vs) h = let k = h 0 v refl in ((k.canonical, k.raw), all_canonical sig vs (λ i u e. h (suc i) u e))

-- what is bound one by one is bound in all
mutual
  binds_from : (s : Substitution) (t : RawTerm) → ((x : Variable) → IsTrue (occurs x t) → IsTrue (is_bound s x)) → IsTrue (binds s t)
  binds_from s (numeral n) h = refl
  binds_from s (quoted q) h = refl
  binds_from s (variable x) h = h x (Rattle.mw_logic.proofs.SameConditions.same_variable-refl x)
  binds_from s (apply f ts) h = binds_all_from s ts h

  binds_all_from : (s : Substitution) (ts : RawTerms) → ((x : Variable) → IsTrue (occurs_in x ts) → IsTrue (is_bound s x)) → IsTrue (binds_all s ts)
  binds_all_from s nil h = refl
  binds_all_from s (cons t ts) h =
      and_from (binds s t) (binds_all s ts) (binds_from s t (λ x o. h x (or_left (occurs x t) (occurs_in x ts) o))) (binds_all_from s ts (λ x o. h x (or_right (occurs x t) (occurs_in x ts) o)))

-- so it is in a condition
binds_condition : (s : Substitution) (C : List Fragment) → ((x : Variable) → IsTrue (occurs_among x C) → IsTrue (is_bound s x)) → IsTrue (binds_fragments s C)
binds_condition s [] h = refl
binds_condition s (equal u v ∷ C) h =
    and_from (binds s u && binds s v) (binds_fragments s C)
    (and_from (binds s u) (binds s v) (binds_from s u (λ x o. h x (or_left (occurs x u || occurs x v) (occurs_among x C) (or_left (occurs x u) (occurs x v) o))))
    (binds_from s v (λ x o. h x (or_left (occurs x u || occurs x v) (occurs_among x C) (or_right (occurs x u) (occurs x v) o)))))
    (binds_condition s C (λ x o. h x (or_right (occurs x u || occurs x v) (occurs_among x C) o)))
binds_condition s (matches u v ∷ C) h =
    and_from (binds s u && binds s v) (binds_fragments s C)
    (and_from (binds s u) (binds s v) (binds_from s u (λ x o. h x (or_left (occurs x u || occurs x v) (occurs_among x C) (or_left (occurs x u) (occurs x v) o))))
    (binds_from s v (λ x o. h x (or_left (occurs x u || occurs x v) (occurs_among x C) (or_right (occurs x u) (occurs x v) o)))))
    (binds_condition s C (λ x o. h x (or_right (occurs x u || occurs x v) (occurs_among x C) o)))
binds_condition s (has_sort t S ∷ C) h =
    and_from (binds s t) (binds_fragments s C) (binds_from s t (λ x o. h x (or_left (occurs x t) (occurs_among x C) o))) (binds_condition s C (λ x o. h x (or_right (occurs x t) (occurs_among x C) o)))
binds_condition s (is_true t ∷ C) h =
    and_from (binds s t) (binds_fragments s C) (binds_from s t (λ x o. h x (or_left (occurs x t) (occurs_among x C) o))) (binds_condition s C (λ x o. h x (or_right (occurs x t) (occurs_among x C) o)))

-- what was reached has values of the variables that were bound, and of those in the patterns of matches
module _ (M : Module) (below : Judgements) where
  binds_reached : (C : List Fragment) (s : Substitution) (es : Proofs) (r : Substitution) (b : Variable → Bool) → ((y : Variable) → IsTrue (b y) → IsTrue (is_bound s y)) → HoldsAbove M below C s es r
      → (x : Variable) → IsTrue (binds_among b C x) → IsTrue (is_bound r x)
  binds_reached [] s es r b i (e, d) x h = subst (λ q. IsTrue (is_bound q x)) d (i x h)
  binds_reached (equal u v ∷ C) s es r b i (p, q, rest, a, c, e, k, l, m, z) x h = binds_reached C s rest r b i z x h
  binds_reached (is_true t ∷ C) s es r b i (p, rest, a, e, k, m, z) x h = binds_reached C s rest r b i z x h
  binds_reached (has_sort t S ∷ C) s es r b i (p, rest, a, e, k, m, z) x h = binds_reached C s rest r b i z x h
  binds_reached (matches l t ∷ C) s es r b i (p, rest, a, q, e, k, sol, z) x h =
      binds_reached C q rest r (λ y. b y || occurs y l)
      (λ y o. sol.variables y ∙ ⊎_elim (λ g. or_left (is_bound s y) (occurs y l) (i y g)) (λ g. or_right (is_bound s y) (occurs y l) g) (or_cases (b y) (occurs y l) o)) z x h

held_binds : (M : Module) (n : ℕ) (C : List Fragment) (s : Substitution) (es : Proofs) (r : Substitution) (b : Variable → Bool) → ((y : Variable) → IsTrue (b y) → IsTrue (is_bound s y))
    → (admitted_judgements M n).Held C s es r → (x : Variable) → IsTrue (binds_among b C x) → IsTrue (is_bound r x)
unfolding judgements_with
held_binds M zero [] s es r b i h x k = subst (λ q. IsTrue (is_bound q x)) h.1 (i x k)
held_binds M zero (f ∷ C) s es r b i h x k = absurd h
held_binds M (suc n) C s es r b i h x k = binds_reached M (admitted_judgements M n) C s es r b i h x k

-- What holds from the solution of a left side holds from what it reaches, and from more, where its variables are bound in turn.
held_on : (M : Module) (n : ℕ) (C : List Fragment) (s : Substitution) (es : Proofs) (r q : Substitution) → AreBound (is_bound s) C → IsSubstitution M.signature q → Extends r q
    → (admitted_judgements M n).Held C s es r → (admitted_judgements M n).Held C q es q
unfolding judgements_with
held_on M zero [] s es r q b i e h = (h.0, refl)
held_on M zero (f ∷ C) s es r q b i e h = absurd h
held_on M (suc n) C s es r q b i e h = held_extended M (admitted_judgements M n) C s es r q b i e h

module _ (M : Module) (ok : IsAccepted M.signature) (sorted : IsWellSorted M.signature) (n number : ℕ) (ms : List Move) (vs : List RawTerm) (right w : RawTerm) (r : IsRedex M n number ms vs right w) where
  abbrev sig : Signature
  sig = M.signature

  abbrev pub values_here : Substitution
  values_here = meant sig (zip r.statement.variables vs)

  -- what comes for the term
  abbrev pub made : RawTerm
  made = instance values_here r.statement.right

  pub made_raw : IsRawTerm sig made
  made_raw = instance_raw sig ok sorted values_here r.substitution r.sides.right

  made_kinds : (L : ℕ) → HasKind sig (nested sig w) L → HasKind sig made L
  made_kinds L l =
      let (K, a, b) = r.sides.kinds in
      let k = kinds_here M ok sorted n number ms vs right w r in
      let there : HasKind sig (nested sig w) K = (raw_kept sig ok (left_matches M ok sorted n number ms vs right w r)).1 K (instance_kind sig values_here k a) in
      HasKind-same (instance_kind sig values_here k b) (kind_unique sig ok there l)

  bound_here : (x : Variable) → IsTrue (is_in x r.statement.variables) → IsTrue (is_bound values_here x)
  bound_here = all_bound_here M ok sorted n number ms vs right w r

  pub made_ground : IsTrue (is_ground made)
  made_ground = instance_ground sig values_here r.substitution r.statement.right (λ x o. bound_here x (right_here M ok sorted n number ms vs right w r x o))

  pub made_comes : MayCome sig w made
  made_comes = record { raw = made_raw; is_ground = made_ground; kinds = made_kinds }

  -- what is reached gives the same, where the condition holds
  pub made_reached : (es : Proofs) → (admitted_judgements M n).Held r.statement.fragments r.solution es r.reached → made ≡ instance r.reached r.statement.right
  made_reached es h = sym (instance_extended r.reached values_here r.reaches r.statement.right (λ x o. held_binds M n r.statement.fragments r.solution es r.reached (λ y. occurs y r.statement.left) (λ y k. solution_binds M ok sorted n number ms vs right w r y k) h x (r.ordinary.bound x o)))

  -- the statement may be applied where its condition is shown, if what comes of the whole is admitted
  pub may_apply : (c : Bool) → r.statement.rule ≡ c → (S T : Stand) (es : Proofs) → (IsTrue c → ¬ IsFrozen sig (round sig S.opens)) → S.hand ≡ w → IsWaiting es S T → S.rank ≡ n → (admitted_judgements M n).Held r.statement.fragments r.solution es r.reached
      → ((q : Substitution) → Extends r.reached q → beginnings T.sides ≡ begun_sides sig q (all_sides r.statement.fragments)) → IsSeen sig S.opens w → IsCanonical sig w
      → IsRawTerm sig (plug (round sig S.opens) (nested sig w)) → IsAdmitted sig (plug (round sig S.opens) made) → MayApply M number c values_here vs T
  may_apply c kind S T es free e waits rank held starts seen k raw a =
      let left : RawTerm = instance values_here r.statement.left in
      let b : IsTrue (binds values_here r.statement.left) = binds_from values_here r.statement.left (λ x o. bound_here x (left_here M ok sorted n number ms vs right w r x o)) in
      let d : IsTrue (binds values_here r.statement.right) = binds_from values_here r.statement.right (λ x o. bound_here x (right_here M ok sorted n number ms vs right w r x o)) in
      let f : IsTrue (binds_fragments values_here r.statement.fragments) = binds_condition values_here r.statement.fragments (λ x o. bound_here x (among_here M ok sorted n number ms vs right w r x o)) in
      let in_turn : AreBound (is_bound r.solution) r.statement.fragments = AreBound-same r.statement.fragments (λ x. sym (r.solves.variables x)) r.ordinary.bound_in_turn in
      let full : (admitted_judgements M n).Held r.statement.fragments values_here es values_here = held_on M n r.statement.fragments r.solution es r.reached values_here in_turn r.substitution r.reaches held in
      record {
        statement = r.statement;
        is_there = r.is_there.is_there;
        rule = kind;
        replaces = record {
          statement = r.statement;
          is_there = r.is_there;
          rule = kind;
          substitution = r.substitution;
          all_bound = rw (b, d) f;
          condition = subst (λ i. (admitted_judgements M i).Held r.statement.fragments values_here T.read.ready values_here) (sym (waits.rank ∙ rank))
              (subst (λ ps. (admitted_judgements M n).Held r.statement.fragments values_here ps values_here) (sym waits.ready) full);
          plain = λ o. absurd (true≢false (sym o ∙ r.ordinary.ordinary));
          from = refl;
          to = refl;
        };
        values = record { size = r.size; canonical = all_canonical sig vs r.values; are = meant_zip sig r.statement.variables vs };
        starts = starts values_here r.reaches;
        may = record {
          seen = subst (λ os. IsSeen sig os T.hand) (sym waits.opens) (subst (IsSeen sig S.opens) (sym (waits.hand ∙ e)) seen);
          free = λ z. subst (λ os. ¬ IsFrozen sig (round sig os)) (sym waits.opens) (free z);
          raw_part = instance_raw sig ok sorted values_here r.substitution r.sides.left;
          is_part = normal_form-kept sig ok (left_matches M ok sorted n number ms vs right w r) ∙ fixed sig ok w k ∙ sym (waits.hand ∙ e);
          raw = subst (λ os. IsRawTerm sig (plug (round sig os) made)) (sym waits.opens) (raw_in_place sig ok (round sig S.opens) (nested sig w) made raw made_raw made_kinds);
          admitted = subst (λ os. IsAdmitted sig (plug (round sig os) made)) (sym waits.opens) a;
        };
      }

-- one more, where it is by a rule
pub counted_on : (b : Bool) {n m k : ℕ} → n ≡ m + cond b 1 0 → m ≡ k → n ≡ cond b (suc k) k
counted_on true p q = omega (arith, p, q)
counted_on false p q = omega (arith, p, q)

-- A replacement, by a rule where b says so, was made where a run stood: v is in hand.
pub record IsReplaced (K : Run) (b : Bool) (count : ℕ) (ms : List Move) (S : Stand) (v : RawTerm) : Type 0 where
  pub stand : Stand
  pub leads : Leads (after_one b K) (suc count) ms stand
  pub opens : stand.opens ≡ S.opens
  pub hand : stand.hand ≡ v

module _ (K : Run) (ok : IsAccepted K.over.signature) (sorted : IsWellSorted K.over.signature) (count number : ℕ) (ss : List Move) (vs : List RawTerm) (right w : RawTerm) (r : IsRedex K.over K.rank number ss vs right w) where
  abbrev s : Substitution
  s = meant K.over.signature (zip r.statement.variables vs)

  abbrev here : Signature
  here = K.over.signature

  -- where a run stands the condition may be shown
  pub shows_there : (ms : List Move) (S : Stand) → AreStanding K.over K.start → Leads K count ms S → IsShown K.over K.rank r.statement.fragments r.solution r.reached ss S K.below
  shows_there ms S start h = r.shown S K.below (all_standing K ok sorted count ms S start h) h.rank h.ready

  pub fires : (b : Bool) → r.statement.rule ≡ b → (ms : List Move) (S : Stand) → (IsTrue b → ¬ IsFrozen here (round here S.opens)) → AreStanding K.over K.start → Leads K count ms S → S.hand ≡ w → IsSeen here S.opens w
      → IsAdmitted here (plug (round here S.opens) (instance s r.statement.right)) → IsReplaced K b count (ms ++ (ss ++ applies number b s vs ∷ [])) S (evaluated here vs right)
  fires b kind ms S free start h e seen a =
      let at : At K.over (admitted_judgements K.over K.rank).Held (admitted_judgements K.over K.rank).Fails (nested here S.from) S.read S.opens w =
      subst (At K.over (admitted_judgements K.over K.rank).Held (admitted_judgements K.over K.rank).Fails (nested here S.from) S.read S.opens) e (at_hand K ok sorted count ms S start h) in
      let shown = shows_there ms S start h in
      let T : Stand = shown.waiting in
      let z = shown.waits in
      let may : MayApply K.over number b s vs T = may_apply K.over ok sorted K.rank number ss vs right w r b kind S T shown.evidence free e z h.rank shown.holds shown.starts seen at.canonical at.raw a in
      let Q : Stand = replacing here (replacement number b s T.read.ready) (by_statement number s T.sides) (becomes K.over number s T.hand) T in
      let one = (reading.one (replacement number b s T.read.ready) T.read).1 in
      let by_rules = (reading.one (replacement number b s T.read.ready) T.read).0 in
      let old = h.steps in
      let done_steps : steps (proof_of T.read.done) ≡ steps (proof_of S.read.done) = ap (λ rs. steps (proof_of rs)) z.done in
      let done_rules : rules (proof_of T.read.done) ≡ rules (proof_of S.read.done) = ap (λ rs. rules (proof_of rs)) z.done in
      let all : AreMoves K.over (ss ++ applies number b s vs ∷ []) (S ∷ K.below) = moves-append K.over ss (applies number b s vs ∷ []) (S ∷ K.below) shown.may (subst (AreMoves K.over (applies number b s vs ∷ [])) (sym shown.plays) (may, tt)) in
      let goes : plays K.over (ss ++ applies number b s vs ∷ []) (S ∷ K.below) ≡ Q ∷ K.below = plays-append K.over ss (applies number b s vs ∷ []) (S ∷ K.below) ∙ ap (plays K.over (applies number b s vs ∷ [])) shown.plays in
      record {
        stand = Q;
        leads = record {
          plays = plays-append K.over ms (ss ++ applies number b s vs ∷ []) K.start ∙ ap (plays K.over (ss ++ applies number b s vs ∷ [])) h.plays ∙ goes;
          moves = moves-append K.over ms (ss ++ applies number b s vs ∷ []) K.start h.moves (subst (AreMoves K.over (ss ++ applies number b s vs ∷ [])) (sym h.plays) all);
          rank = z.rank ∙ h.rank;
          from = z.from ∙ h.from;
          ready = refl;
          steps = omega (arith, one, old, done_steps);
          rules = counted_on b by_rules (done_rules ∙ h.rules);
        };
        opens = z.opens;
        hand = becomes_is K.over ok number s T.hand r.statement r.is_there.is_there ∙ sym (right_is K.over ok sorted K.rank number ss vs right w r);
      }
