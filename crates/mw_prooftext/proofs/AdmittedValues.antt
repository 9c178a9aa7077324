-- Where a statement may be applied, its values are canonical terms that are admitted: each variable stands in the left side, or in the pattern of a match; so its
-- value is a part of the term in hand, or of what a side evaluates to, or a leaf.
use Rattle.std.specs.Prelude.{◌≡◌, ℕ, zero, suc, List, [], ◌∷◌, length, map, Bool, true, false, ◌||◌, cond, Some, is_some, IsTrue, refl}
use Rattle.std.specs.List.{zip}
use Rattle.std.proofs.Common.{sym, subst, ap, ◌∙◌, ⊎_elim, arith, true≢false}
use Rattle.std.proofs.lemmas.Bool.{both_ways, or_cases, or_right}
use Rattle.std.proofs.lemmas.List.{length-map}
use Rattle.std.proofs.lemmas.Option.{same_Some}
use Rattle.mw_logic.specs.Term.{Variable, RawTerm, is_ground}
use Rattle.mw_logic.specs.Signature.{Signature, IsRawTerm}
use Rattle.mw_logic.specs.Accepted.{IsAccepted, IsWellSorted}
use Rattle.mw_logic.specs.Axioms.{EqualModulo}
use Rattle.mw_logic.specs.Substitution.{Substitution, same_variable, value, instance, occurs, is_bound, IsSubstitution}
use Rattle.mw_logic.specs.Parts.{nested, IsAdmitted}
use Rattle.mw_logic.specs.NormalForm.{normal_form}
use Rattle.mw_logic.specs.Module.{Fragment, equal, matches, has_sort, is_true, Statement, Module, IsStatement}
use Rattle.mw_logic.specs.Proof.{Proofs}
use Rattle.mw_logic.specs.Judgements.{Judgements, HoldsAbove, judgements_with, admitted_judgements}
use Rattle.mw_logic.specs.Confluence.{AreBound}
use Rattle.mw_logic.proofs.Canonical.{canonical}
use Rattle.mw_logic.proofs.CanonicalTerms.{fixed}
use Rattle.mw_logic.proofs.EqualTerms.{IsAdmitted-equal}
use Rattle.mw_logic.proofs.Inside.{raw_inside}
use Rattle.mw_logic.proofs.RawKept.{raw_kept}
use Rattle.mw_logic.proofs.SameConditions.{same_variable-is, same_variable-refl, bound_some}
use Rattle.mw_logic.proofs.SolutionLaws.{substitution_value, instance_raw}
use Rattle.mw_logic.proofs.Soundness.{normal_form-sound}
use Rattle.mw_canon.specs.Canonical.{IsAdmittedTerm, HasAdmittedValues}
use Rattle.mw_position.specs.Variables.{is_in}
use Rattle.mw_position.proofs.Placing.{bound_zip}
use Rattle.mw_solving.proofs.Grounds.{nested_ground}
use Rattle.mw_least.specs.Conditions.{occurs_among, binds_among, AreRawFragments}
use Rattle.mw_least.specs.Workable.{AreSides, IsOrdinary, IsWorkable}
use Rattle.mw_least.proofs.Mentioned.{is_mentioned}
use Rattle.mw_deduction.specs.Standing.{round}
use Rattle.mw_deduction.specs.Stands.{IsStanding}
use Rattle.mw_deduction.specs.Replay.{Stand, AreAllCanonical, MayApply}
use Rattle.mw_deduction.proofs.Extended.{reached_extends}
use Rattle.mw_deduction.proofs.ValuesInside.{value_found}
use Rattle.mw_prooftext.specs.Grounds.{AreGround}
use Rattle.mw_prooftext.proofs.Inside.{found_admitted, inside_admitted}

-- a canonical term that is admitted is ground
pub ground_term : (sig : Signature) (t : RawTerm) → IsAdmittedTerm sig t → IsTrue (is_ground t)
ground_term sig t a = sym (nested_ground sig t) ∙ a.admitted.ground

module _ (sig : Signature) (ok : IsAccepted sig) where
  -- a value in an instance that is equal, modulo the axioms, to an admitted term
  pub value_admitted : IsWellSorted sig → (s : Substitution) → IsSubstitution sig s → (p T : RawTerm) → IsRawTerm sig p → IsAdmitted sig T → EqualModulo sig (instance s p) T → (x : Variable) (u : RawTerm) → IsTrue (occurs x p) → value s x ≡ Some u → IsAdmitted sig u
  value_admitted sorted s is p T raw a e x u o h =
      let ri : IsRawTerm sig (instance s p) = instance_raw sig ok sorted s is raw in
      let rt : IsRawTerm sig T = (raw_kept sig ok e).0 ri in
      let (g, ru, l) = substitution_value sig s is x u h in
      found_admitted sig ok T u rt a ru g (value_found sig ok s p T x u rt ri e o h)

-- In a condition that holds, where variables are bound in turn, so is the value of each variable: those that were bound before have admitted values.
module _ (M : Module) (ok : IsAccepted M.signature) (sorted : IsWellSorted M.signature) (r : Substitution) where
  abbrev IsKnown : Variable → Type 0
  IsKnown x = (u : RawTerm) → value r x ≡ Some u → IsAdmitted M.signature u

  -- those that are bound in the end, and those of its sides and patterns
  abbrev AreKnown : (Variable → Bool) → List Fragment → Type 0
  AreKnown b C = ((x : Variable) → IsTrue (binds_among b C x) → IsKnown x) × ((x : Variable) → IsTrue (occurs_among x C) → IsKnown x)

  one_more : (x : Variable) (c d : Bool) → (IsTrue c → IsKnown x) → (IsTrue d → IsKnown x) → IsTrue (c || d) → IsKnown x
  one_more x c d k l o = ⊎_elim k l (or_cases c d o)

  module _ (below : Judgements) (normal : (u : RawTerm) → below.Normal u → IsAdmitted M.signature u) where
    all_known : (C : List Fragment) (s : Substitution) (es : Proofs) (b : Variable → Bool) → ((x : Variable) → IsTrue (b x) → IsKnown x) → AreBound b C → AreRawFragments M.signature C → HoldsAbove M below C s es r → AreKnown b C
    all_known [] s es b k a w h = (k, λ x o. absurd (true≢false (sym o)))
    all_known (equal u v ∷ C) s es b k a w (p, q, rest, c, d, e, l, m, n, h) =
        let (i, j) = all_known C s rest b k a.2 w.2 h in
        (i, λ x. one_more x (occurs x u || occurs x v) (occurs_among x C) (one_more x (occurs x u) (occurs x v) (λ o. k x (a.0 x o)) (λ o. k x (a.1 x o))) (j x))
    all_known (is_true t ∷ C) s es b k a w (p, rest, c, e, l, m, h) =
        let (i, j) = all_known C s rest b k a.1 w.1 h in (i, λ x. one_more x (occurs x t) (occurs_among x C) (λ o. k x (a.0 x o)) (j x))
    all_known (has_sort t S ∷ C) s es b k a w (p, rest, c, e, l, m, h) =
        let (i, j) = all_known C s rest b k a.1 w.2 h in (i, λ x. one_more x (occurs x t) (occurs_among x C) (λ o. k x (a.0 x o)) (j x))
    all_known (matches l t ∷ C) s es b k a w (p, rest, c, q, e, y, sol, h) =
        let (i, j) = all_known C q rest (λ x. b x || occurs x l) both a.1 w.2 h in
        (i, λ x. one_more x (occurs x l || occurs x t) (occurs_among x C) (one_more x (occurs x l) (occurs x t) (in_pattern x) (λ o. k x (a.0 x o))) (j x))
      where
        in_pattern : (x : Variable) → IsTrue (occurs x l) → IsKnown x
        in_pattern x o u v =
            let (z, n) = bound_some q x (sol.variables x ∙ or_right (is_bound s x) (occurs x l) o) in
            let d : z ≡ u = same_Some z u (sym (reached_extends M below C q rest r h x z n) ∙ v) in
            value_admitted M.signature ok sorted q sol.substitution l c w.0 (normal c y.normal) sol.matches x u o (subst (λ g. value q x ≡ Some g) d n)

        both : (x : Variable) → IsTrue (b x || occurs x l) → IsKnown x
        both x = one_more x (b x) (occurs x l) (k x) (in_pattern x)

  normal_admitted : (n : ℕ) (u : RawTerm) → (admitted_judgements M n).Normal u → IsAdmitted M.signature u
  unfolding judgements_with
  normal_admitted zero u h = h.admitted
  normal_admitted (suc n) u h = h.admitted

  held_known : (n : ℕ) (C : List Fragment) (s : Substitution) (es : Proofs) (b : Variable → Bool) → ((x : Variable) → IsTrue (b x) → IsKnown x) → AreBound b C → AreRawFragments M.signature C → (admitted_judgements M n).Held C s es r → AreKnown b C
  unfolding judgements_with
  held_known zero [] s es b k a w h = (k, λ x o. absurd (true≢false (sym o)))
  held_known zero (f ∷ C) s es b k a w h = absurd h
  held_known (suc n) C s es b k a w h = all_known (admitted_judgements M n) (normal_admitted n) C s es b k a w h

-- canonical terms whose nestings a substitution has, each of which is admitted
module _ (sig : Signature) (ok : IsAccepted sig) where
  values_admitted : (xs : List Variable) (vs : List RawTerm) → length vs ≡ length xs → AreAllCanonical sig vs → IsSubstitution sig (zip xs (map (nested sig) vs))
      → ((x : Variable) (u : RawTerm) → value (zip xs (map (nested sig) vs)) x ≡ Some u → IsAdmitted sig u) → HasAdmittedValues sig (zip xs vs)
  values_admitted [] vs l c i k = tt
  values_admitted (x ∷ xs) [] l c i k = tt
  values_admitted (x ∷ xs) (v ∷ vs) l c i k = (
    record {
      raw = c.0.1;
      canonical = fixed sig ok v c.0.0;
      admitted = k x (nested sig v) (rw (same_variable-refl x) refl);
    },
    values_admitted xs vs (omega (arith, l)) c.1 i.4 (λ y u h. k y u (behind y u h)),
  )
    where
      behind : (y : Variable) (u : RawTerm) → value (zip xs (map (nested sig) vs)) y ≡ Some u → value ((x, nested sig v) ∷ zip xs (map (nested sig) vs)) y ≡ Some u
      behind y u h = by_test (same_variable x y) refl
        where
          by_test : (b : Bool) → same_variable x y ≡ b → cond b (Some (nested sig v)) (value (zip xs (map (nested sig) vs)) y) ≡ Some u
          by_test false e = h
          by_test true e = absurd (both_ways _ i.0 (ap (is_bound (zip xs (map (nested sig) vs))) (same_variable-is x y e) ∙ ap is_some h))

  values_ground : (xs : List Variable) (vs : List RawTerm) → length vs ≡ length xs → HasAdmittedValues sig (zip xs vs) → AreGround vs
  values_ground xs [] l h = tt
  values_ground [] (v ∷ vs) l h = absurd (omega (arith, l))
  values_ground (x ∷ xs) (v ∷ vs) l h = (ground_term sig v h.0, values_ground xs vs (omega (arith, l)) h.1)

module _ (M : Module) (work : IsWorkable M) (S : Stand) (stands : IsStanding M S) where
  abbrev sig : Signature
  sig = M.signature

  abbrev ok : IsAccepted sig
  ok = work.signature.accepted

  pub hand_admitted : IsAdmittedTerm sig S.hand
  hand_admitted = record {
    raw = raw_inside sig ok (round sig S.opens) (nested sig S.hand) stands.at.raw;
    canonical = fixed sig ok S.hand stands.at.canonical;
    admitted = inside_admitted sig ok (round sig S.opens) (nested sig S.hand) stands.at.raw stands.at.admitted;
  }

  module _ (k : ℕ) (r : Bool) (s : Substitution) (vs : List RawTerm) (may : MayApply M k r s vs S) where
    abbrev e : Statement
    e = may.statement

    same : may.replaces.statement ≡ e
    same = same_Some may.replaces.statement e (sym may.replaces.is_there.is_there ∙ may.is_there)

    pub is_statement : IsStatement M k e
    is_statement = subst (IsStatement M k) same may.replaces.is_there

    ordinary : IsOrdinary sig e
    ordinary = work.statements k e is_statement

    sides : AreSides sig e
    sides = work.sides k e may.is_there

    left_known : (x : Variable) → IsTrue (occurs x e.left) → (u : RawTerm) → value s x ≡ Some u → IsAdmitted sig u
    left_known x o u h =
        let raw : IsRawTerm sig (instance s e.left) = instance_raw sig ok work.signature.well_sorted s may.replaces.substitution sides.left in
        let m : EqualModulo sig (instance s e.left) (nested sig S.hand) = subst (λ t. EqualModulo sig (instance s e.left) (nested sig t)) may.may.is_part (normal_form-sound sig ok raw) in
        value_admitted sig ok work.signature.well_sorted s may.replaces.substitution e.left (nested sig S.hand) sides.left hand_admitted.admitted m x u o h

    known : (x : Variable) (u : RawTerm) → value s x ≡ Some u → IsAdmitted sig u
    known x u h =
        let held = subst (λ (d : Statement). (admitted_judgements M S.rank).Held d.fragments s S.read.ready s) same may.replaces.condition in
        let (i, j) = held_known M ok work.signature.well_sorted s S.rank e.fragments s S.read.ready (λ y. occurs y e.left) left_known ordinary.bound_in_turn sides.fragments held in
        let b : IsTrue (is_in x e.variables) = sym (bound_zip e.variables (map (nested sig) vs) x (length-map vs (nested sig) ∙ may.values.size)) ∙ ap (λ q. is_bound q x) (sym may.values.are) ∙ ap is_some h in
        let c : IsTrue ((occurs x e.left || occurs x e.right) || occurs_among x e.fragments) = sym (ap (is_in x) ordinary.variables ∙ is_mentioned e x) ∙ b in
        ⊎_elim (λ o. ⊎_elim (λ a. left_known x a u h) (λ a. i x (ordinary.bound x a) u h) (or_cases (occurs x e.left) (occurs x e.right) o)) (λ o. j x o u h) (or_cases (occurs x e.left || occurs x e.right) (occurs_among x e.fragments) c)

    pub has_admitted_values : HasAdmittedValues sig (zip e.variables vs)
    has_admitted_values = values_admitted sig ok e.variables vs may.values.size may.values.canonical (subst (IsSubstitution sig) may.values.are may.replaces.substitution) (λ x u h. known x u (ap (λ q. value q x) may.values.are ∙ h))

    pub are_ground : AreGround vs
    are_ground = values_ground sig ok e.variables vs may.values.size has_admitted_values

    -- what comes of it
    right_raw : IsRawTerm sig (instance s e.right)
    right_raw = instance_raw sig ok work.signature.well_sorted s may.replaces.substitution sides.right

    pub right_admitted : IsAdmittedTerm sig (normal_form sig (instance s e.right))
    right_admitted =
        let n : EqualModulo sig (instance s e.right) (nested sig (normal_form sig (instance s e.right))) = normal_form-sound sig ok right_raw in
        record {
          raw = (raw_kept sig ok n).0 right_raw;
          canonical = fixed sig ok (normal_form sig (instance s e.right)) (canonical sig ok (instance s e.right));
          admitted = IsAdmitted-equal sig n (inside_admitted sig ok (round sig S.opens) (instance s e.right) may.may.raw may.may.admitted);
        }
