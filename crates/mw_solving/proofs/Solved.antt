-- Each solution is a match: of the canonical forms of its values.
use Rattle.std.specs.Prelude.{◌≡◌, ℕ, zero, suc, List, [], ◌∷◌, ◌++◌, length, map, Bool, true, false, cond, Some, is_some, unwrap_or, nat_eq, slice_get, refl}
use Rattle.std.specs.List.{zip}
use Rattle.std.proofs.Common.{sym, ap, subst, ◌∙◌, arith}
use Rattle.std.proofs.lemmas.Bool.{both_ways, and_from, or_left, or_right}
use Rattle.std.proofs.lemmas.List.{length-map, map-append}
use Rattle.std.proofs.lemmas.Option.{none-some, same_Some, slice_get_within}
use Rattle.mw_logic.specs.Term.{Variable, RawTerm, variable}
use Rattle.mw_logic.specs.Signature.{Signature, sort, IsRawTerm}
use Rattle.mw_logic.specs.Accepted.{IsAccepted}
use Rattle.mw_logic.specs.Axioms.{EqualModulo}
use Rattle.mw_logic.specs.Sorts.{HasSort}
use Rattle.mw_logic.specs.Parts.{nested}
use Rattle.mw_logic.specs.NormalForm.{identity_of, normal_form}
use Rattle.mw_logic.specs.Substitution.{Substitution, same_variable, value, instance, is_bound, IsSubstitution, Extends, IsSolution, SameSolution}
use Rattle.mw_logic.proofs.AxiomLaws.{trans, sym as back}
use Rattle.mw_logic.proofs.Canonical.{IsCanonical, canonical, nat_eq-refl}
use Rattle.mw_logic.proofs.CanonicalTerms.{fixed}
use Rattle.mw_logic.proofs.EqualTerms.{ground_kept}
use Rattle.mw_logic.proofs.InstanceLaws.{instance_same}
use Rattle.mw_logic.proofs.Invariance.{normal_form-kept}
use Rattle.mw_logic.proofs.RawKept.{raw_kept}
use Rattle.mw_logic.proofs.SameConditions.{bound_some, same_variable-is, same_variable-refl}
use Rattle.mw_logic.proofs.SolutionLaws.{substitution_value}
use Rattle.mw_logic.proofs.Soundness.{normal_form-sound}
use Rattle.mw_canon.specs.Canonical.{meant}
use Rattle.mw_position.specs.Positions.{Begins}
use Rattle.mw_position.specs.Variables.{is_in, sorts_of, bound_variables, bound_values}
use Rattle.mw_position.proofs.Begins.{begins_append}
use Rattle.mw_position.proofs.Meeting.{met_grows}
use Rattle.mw_position.proofs.Placing.{value_of, values_of}
use Rattle.mw_position.proofs.Placing.{same_length}
use Rattle.mw_matching.specs.Found.{is_among, is_element, is_element_under_all, operators_at, fits}
use Rattle.mw_matching.specs.Matches.{Theory, Fits, IsMatch}
use Rattle.mw_solving.specs.Values.{IsValue, AreValues, AreOfSorts, AreSure, MayStand}
use Rattle.mw_solving.proofs.Positions.{stands_in, variable_at, forms_of, same_solution, values_sorted}
use Rattle.mw_solving.proofs.Solving.{variables, pattern, is_in_variables, pattern_numbered, instance_form}

-- the sort at an index
pub sort_at : (xs : List Variable) (i : ℕ) (x : Variable) → slice_get xs i ≡ Some x → slice_get (sorts_of xs) i ≡ Some x.sort
sort_at [] i x e = absurd (none-some x e)
sort_at (y ∷ ys) zero x e = ap (λ (z : Variable). Some z.sort) (same_Some y x e)
sort_at (y ∷ ys) (suc i) x e = sort_at ys i x e

variable_of_sort : (xs : List Variable) (i S : ℕ) → slice_get (sorts_of xs) i ≡ Some S → (x : Variable) × (slice_get xs i ≡ Some x) × (x.sort ≡ S)
variable_of_sort [] i S e = absurd (none-some S e)
variable_of_sort (y ∷ ys) zero S e = (y, refl, same_Some y.sort S e)
variable_of_sort (y ∷ ys) (suc i) S e = variable_of_sort ys i S e

pub get_front : (xs ys : List Variable) (i : ℕ) (x : Variable) → slice_get xs i ≡ Some x → slice_get (xs ++ ys) i ≡ Some x
get_front [] ys i x e = absurd (none-some x e)
get_front (z ∷ xs) ys zero x e = e
get_front (z ∷ xs) ys (suc i) x e = get_front xs ys i x e

module _ (sig : Signature) where
  -- where lists of operators are sure, what has the sort of a position is one element under those listed there
  pub sure_fits : (single : List (List ℕ)) (Ss : List ℕ) → AreSure sig single Ss → MayStand sig (fits sig single) Ss
  sure_fits single Ss h i S u e v k = under_all (operators_at single i) (λ f m. h i f S u m e v k)
    where
      under_all : (fs : List ℕ) → ((f : ℕ) → is_among f fs ≡ true → is_element (identity_of sig f) f u ≡ true) → is_element_under_all sig fs u ≡ true
      under_all [] h = refl
      under_all (f ∷ fs) h = and_from _ _ (h f (or_left (nat_eq f f) (is_among f fs) (nat_eq-refl f))) (under_all fs (λ g m. h g (or_right (nat_eq g f) (is_among g fs) m)))

  equal_sort : {t u : RawTerm} {S : ℕ} → EqualModulo sig t u → HasSort sig t (sort S) → HasSort sig u (sort S)
  equal_sort e h = record { form = h.form; equal = trans (back e) h.equal; declared = h.declared; is_declared = h.is_declared; below = h.below }

  module _ (ok : IsAccepted sig) where
    form_at : (s : Substitution) (xs : List Variable) (i : ℕ) (u : RawTerm) → slice_get (forms_of sig ok s xs) i ≡ Some u → (x : Variable) × (slice_get xs i ≡ Some x) × (normal_form sig (value_of s x) ≡ u)
    form_at s [] i u e = absurd (none-some u e)
    form_at s (x ∷ xs) zero u e = (x, refl, same_Some _ u e)
    form_at s (x ∷ xs) (suc i) u e = form_at s xs i u e

    -- given values are canonical already
    forms_given : (s0 s : Substitution) → IsSubstitution sig (meant sig s0) → ((i : ℕ) (u : RawTerm) → slice_get (bound_values s0) i ≡ Some u → IsCanonical sig u) → Extends (meant sig s0) s → forms_of sig ok s (bound_variables s0) ≡ bound_values s0
    forms_given [] s h k e = refl
    forms_given (b ∷ s0) s h k e =
        let others : forms_of sig ok s (bound_variables s0) ≡ bound_values s0 = forms_given s0 s h.4 (λ i. k (suc i)) behind in
        rw (first, others) refl
      where
        first : normal_form sig (value_of s b.0) ≡ b.1
        first =
            let a : value s b.0 ≡ Some (nested sig b.1) = e b.0 (nested sig b.1) (rw (same_variable-refl b.0) refl) in
            ap (λ o. normal_form sig (unwrap_or o (variable b.0))) a ∙ fixed sig ok b.1 (k 0 b.1 refl)

        behind : Extends (meant sig s0) s
        behind x t i = e x t (by_test (same_variable b.0 x) refl)
          where
            by_test : (c : Bool) → same_variable b.0 x ≡ c → cond c (Some (nested sig b.1)) (value (meant sig s0) x) ≡ Some t
            by_test false q = i
            by_test true q = absurd (both_ways _ h.0 (ap (is_bound (meant sig s0)) (same_variable-is b.0 x q) ∙ ap is_some i))

module _ (sig : Signature) (ok : IsAccepted sig) (p : RawTerm) (raw : IsRawTerm sig (nested sig p)) (s0 : Substitution) (given : IsSubstitution sig (meant sig s0)) (old : AreValues sig (bound_values s0)) where
  abbrev xs : List Variable
  xs = variables sig ok p raw s0 given old

  -- given values may stand at their positions
  pub given_fit : (T : Theory) → MayStand sig T.has (sorts_of xs) → Fits sig T 0 (bound_values s0)
  given_fit T may i u z e =
      let v = old i u e in
      let w = slice_get_within (bound_values s0) i u e in
      let n = same_length s0 in
      let (x, d) = variable_at (bound_variables s0) i (omega (arith, w, n)) in
      let g = met_grows (bound_variables s0) p in
      let k : slice_get xs i ≡ Some x = ap (λ ys. slice_get ys i) g.1 ∙ get_front (bound_variables s0) g.0 i x d in
      (v.canonical, may i x.sort u (sort_at xs i x k) v (values_sorted sig s0 given i u x.sort e (sort_at (bound_variables s0) i x d)))

  module _ (t : RawTerm) (v : IsValue sig t) (s : Substitution) (sol : IsSolution sig (nested sig p) (nested sig t) (meant sig s0) s) where
    abbrev pub solved : List RawTerm
    solved = forms_of sig ok s xs

    bound_here : (x : Variable) → is_bound s x ≡ is_in x xs
    bound_here x = sol.variables x ∙ sym (is_in_variables sig ok p raw s0 given old x)

    pub solved_same : SameSolution sig s (meant sig (zip xs solved))
    solved_same = same_solution sig ok s xs bound_here (λ x w e. (substitution_value sig s sol.substitution x w e).1)

    -- each is canonical, raw and ground, and has its variable's sort
    solved_value : (i : ℕ) (u : RawTerm) → slice_get solved i ≡ Some u → (x : Variable) × (slice_get xs i ≡ Some x) × IsValue sig u × HasSort sig (nested sig u) (sort x.sort)
    solved_value i u e =
        let (x, d, f) = form_at sig ok s xs i u e in
        let (w, a) = bound_some s x (bound_here x ∙ stands_in xs i x d) in
        let (g, r, S) = substitution_value sig s sol.substitution x w a in
        let is_u : normal_form sig w ≡ u = ap (λ o. normal_form sig (unwrap_or o (variable x))) (sym a) ∙ f in
        let q : EqualModulo sig w (nested sig u) = subst (λ u. EqualModulo sig w (nested sig u)) is_u (normal_form-sound sig ok r) in (
          x,
          d,
          record {
            canonical = subst (IsCanonical sig) is_u (canonical sig ok w);
            raw = (raw_kept sig ok q).0 r;
            ground = sym (ground_kept sig q) ∙ g;
          },
          equal_sort sig q S,
        )

    pub solved_values : AreValues sig solved
    solved_values i u e = (solved_value i u e).2

    pub solved_sorts : AreOfSorts sig solved (sorts_of xs)
    solved_sorts i u S e k =
        let (x, d, v, h) = solved_value i u e in
        subst (λ S. HasSort sig (nested sig u) (sort S)) (same_Some x.sort S (sym (sort_at xs i x d) ∙ k)) h

    pub solved_size : length solved ≡ length xs
    solved_size = length-map (values_of s xs) (normal_form sig) ∙ length-map xs (value_of s)

    solved_begins : Begins (bound_values s0) solved
    solved_begins =
        let g = met_grows (bound_variables s0) p in
        let a : solved ≡ forms_of sig ok s (bound_variables s0) ++ forms_of sig ok s g.0 =
        ap (forms_of sig ok s) g.1 ∙ ap (map (normal_form sig)) (map-append (value_of s) (bound_variables s0) g.0) ∙ map-append (normal_form sig) (values_of s (bound_variables s0)) (values_of s g.0) in
        let b : forms_of sig ok s (bound_variables s0) ≡ bound_values s0 = forms_given sig ok s0 s given (λ i u e. (old i u e).canonical) sol.extends in
        subst (Begins (bound_values s0)) (sym (a ∙ ap (λ us. us ++ forms_of sig ok s g.0) b)) (begins_append (bound_values s0) (forms_of sig ok s g.0))

    pub solution_matches : (T : Theory) → MayStand sig T.has (sorts_of xs) → IsMatch sig T (pattern sig ok p raw s0 given old) t (bound_values s0) solved
    solution_matches T may = record {
      begins = solved_begins;
      size = solved_size ∙ sym (pattern_numbered sig ok p raw s0 given old).1;
      gives = sym (instance_form sig ok p raw s0 given old solved solved_begins solved_size (λ i u e. (solved_values i u e).canonical)) ∙ normal_form-kept sig ok here ∙ fixed sig ok t v.canonical;
      fits = λ i u l e. may_stand i u e;
    }
      where
        here : EqualModulo sig (instance (meant sig (zip xs solved)) (nested sig p)) (nested sig t)
        here = trans (back (instance_same sig s (meant sig (zip xs solved)) solved_same (nested sig p))) sol.matches

        may_stand : (i : ℕ) (u : RawTerm) → slice_get solved i ≡ Some u → IsCanonical sig u × (T.has i u ≡ true)
        may_stand i u e = let (x, d, w, h) = solved_value i u e in (w.canonical, may i x.sort u (sort_at xs i x d) w h)
