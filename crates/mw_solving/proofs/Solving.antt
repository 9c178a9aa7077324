-- A match by position is a solution, and each solution is one.
use Rattle.std.specs.Prelude.{◌≡◌, ◌<◌, ◌≤◌, ◌⊎◌, ℕ, List, [], length, map, true, ◌||◌, Some, unwrap_or, slice_get, IsTrue, refl}
use Rattle.std.specs.List.{zip}
use Rattle.std.proofs.Common.{sym, ap, subst, ◌∙◌, inl, inr, arith, append-nil}
use Rattle.std.proofs.lemmas.Bool.{or_cases, or_right, cases_lt}
use Rattle.std.proofs.lemmas.List.{length-map}
use Rattle.std.proofs.lemmas.Option.{slice_get_within}
use Rattle.mw_logic.specs.Term.{Variable, RawTerm, variable, is_ground}
use Rattle.mw_logic.specs.Signature.{Signature, HasKind, IsRawTerm}
use Rattle.mw_logic.specs.Accepted.{IsAccepted, IsWellSorted}
use Rattle.mw_logic.specs.Parts.{nested}
use Rattle.mw_logic.specs.NormalForm.{normal_form}
use Rattle.mw_logic.specs.Substitution.{Substitution, instance, occurs, is_bound, IsSubstitution, Extends, IsSolution}
use Rattle.mw_logic.proofs.Canonical.{IsCanonical}
use Rattle.mw_logic.proofs.CanonicalTerms.{fixed}
use Rattle.mw_logic.proofs.EqualByNormalForm.{equal_by_normal_form}
use Rattle.mw_logic.proofs.RawArguments.{IsTermOf}
use Rattle.mw_logic.proofs.SolutionLaws.{instance_raw}
use Rattle.mw_canon.specs.Canonical.{meant}
use Rattle.mw_position.specs.Positions.{fill, counted, IsNumbered, Begins}
use Rattle.mw_position.specs.Variables.{is_in, met, AreDistinct, place, placed, sorts_of, bound_variables, bound_values}
use Rattle.mw_position.proofs.Begins.{begins_get}
use Rattle.mw_position.proofs.Meeting.{is_in-met, AreDistinct-met, met_grows, place-append, place-within, numbered_met}
use Rattle.mw_position.proofs.Placing.{values_of, values_zip, bound_zip}
use Rattle.mw_position.proofs.Placing.{is_bound_in, same_length, distinct_variables}
use Rattle.mw_matching.specs.Matches.{Theory, evaluated, IsMatch, HasArities}
use Rattle.mw_matching.proofs.Evaluated.{evaluated_is}
use Rattle.mw_solving.specs.Values.{IsValue, AreValues, AreOfSorts}
use Rattle.mw_solving.proofs.Nesting.{nested_occurs, nested_placed, filled}
use Rattle.mw_solving.proofs.Grounds.{nested_ground, value_ground}
use Rattle.mw_solving.proofs.RawValues.{arities, value_raw}
use Rattle.mw_solving.proofs.KindsOfValues.{value_kind}
use Rattle.mw_solving.proofs.Positions.{place_of, stands_in, variable_at, meant_variables, meant_zip, meant_bound, zip_substitution, extended}

module _ (sig : Signature) (ok : IsAccepted sig) (p : RawTerm) (raw : IsRawTerm sig (nested sig p)) (s0 : Substitution) (given : IsSubstitution sig (meant sig s0)) (old : AreValues sig (bound_values s0)) where
  abbrev pub variables : List Variable
  variables = met (bound_variables s0) p

  -- the pattern by position
  abbrev pub pattern : RawTerm
  pattern = placed variables p

  pub distinct_met : AreDistinct variables
  distinct_met = AreDistinct-met (bound_variables s0) p (subst AreDistinct (meant_variables sig s0) (distinct_variables sig (meant sig s0) given))

  pub is_in_variables : (x : Variable) → is_in x variables ≡ (is_bound (meant sig s0) x || occurs x (nested sig p))
  is_in_variables x = is_in-met x (bound_variables s0) p ∙ rw (meant_bound sig s0 x, is_bound_in s0 x, nested_occurs sig x p) refl

  pub pattern_numbered : IsNumbered (length (bound_values s0)) pattern × (counted (length (bound_values s0)) pattern ≡ length variables)
  pattern_numbered =
      subst (λ n. IsNumbered n pattern × (counted n pattern ≡ length variables)) (sym (same_length s0)) (numbered_met (bound_variables s0) p [] variables (sym (append-nil variables)))

  pub pattern_arities : HasArities sig pattern
  pattern_arities = arities sig ok variables p raw

  -- a variable that is not given stands in the pattern
  pub stands_new : (i : ℕ) (x : Variable) → slice_get variables i ≡ Some x → length (bound_values s0) ≤ i → IsTrue (occurs x p)
  stands_new i x e l = by_case (or_cases (is_in x (bound_variables s0)) (occurs x p) (sym (is_in-met x (bound_variables s0) p) ∙ stands_in variables i x e))
    where
      by_case : (is_in x (bound_variables s0) ≡ true) ⊎ (occurs x p ≡ true) → IsTrue (occurs x p)
      by_case (inr o) = o
      by_case (inl h) =
          let g = met_grows (bound_variables s0) p in
          let a : place x variables ≡ place x (bound_variables s0) = ap (place x) g.1 ∙ place-append x (bound_variables s0) g.0 h in
          let b : place x variables ≡ i = place_of variables i x distinct_met e in
          let w = place-within x (bound_variables s0) h in
          let n = same_length s0 in
          absurd (omega (arith, l, a, b, w, n))

  module _ (us : List RawTerm) (begins : Begins (bound_values s0) us) (size : length us ≡ length variables) where
    old_value : (i : ℕ) (u : RawTerm) → slice_get us i ≡ Some u → i < length (bound_values s0) → IsValue sig u
    old_value i u e l = old i u (sym (begins_get (bound_values s0) us i begins l) ∙ e)

    -- what stands at an index is the value of the variable there
    pub at_index : (i : ℕ) (x : Variable) (u : RawTerm) → slice_get variables i ≡ Some x → slice_get us i ≡ Some u → evaluated sig us (placed variables (variable x)) ≡ u
    at_index i x u d g = ap (λ j. unwrap_or (slice_get us j) (placed variables (variable x))) (place_of variables i x distinct_met d) ∙ ap (λ o. unwrap_or o (placed variables (variable x))) g

    -- the instance by canonical values
    module _ (good : (i : ℕ) (u : RawTerm) → slice_get us i ≡ Some u → IsCanonical sig u) where
      pub instance_form : normal_form sig (instance (meant sig (zip variables us)) (nested sig p)) ≡ evaluated sig us pattern
      instance_form =
          let vs : List RawTerm = map (nested sig) us in
          let l : length vs ≡ length variables = length-map us (nested sig) ∙ size in
          let r : Substitution = zip variables vs in
          let a : fill (values_of r variables) (placed variables (nested sig p)) ≡ instance r (nested sig p) =
          filled r variables (nested sig p) (λ x o. is_in_variables x ∙ or_right (is_bound (meant sig s0) x) (occurs x (nested sig p)) o) in
          let b : values_of r variables ≡ vs = values_zip variables vs distinct_met l in
          let c : instance (meant sig (zip variables us)) (nested sig p) ≡ fill vs (nested sig pattern) =
          ap (λ s. instance s (nested sig p)) (meant_zip sig variables us) ∙ sym a ∙ ap (λ ws. fill ws (placed variables (nested sig p))) b ∙ ap (fill vs) (sym (nested_placed sig variables p)) in
          ap (normal_form sig) c ∙ evaluated_is sig ok us good pattern

      -- the values are raw and ground where the term is
      pub values_known : (t : RawTerm) → IsValue sig t → evaluated sig us pattern ≡ t → AreValues sig us
      values_known t v e i u g = by_case (cases_lt i (length (bound_values s0)))
        where
          by_case : (i < length (bound_values s0)) ⊎ (length (bound_values s0) ≤ i) → IsValue sig u
          by_case (inl l) = old_value i u g l
          by_case (inr l) =
              let w = slice_get_within us i u g in
              let (x, d) = variable_at variables i (omega (arith, w, size)) in
              let o : IsTrue (occurs x p) = stands_new i x d l in
              let is_u : evaluated sig us (placed variables (variable x)) ≡ u = at_index i x u d g in
              let flat : IsTrue (is_ground (evaluated sig us pattern)) = ap is_ground e ∙ sym (nested_ground sig t) ∙ v.ground in
              record {
                canonical = good i u g;
                raw = subst (λ w. IsRawTerm sig (nested sig w)) is_u (value_raw sig ok variables us good p raw (subst (λ w. IsRawTerm sig (nested sig w)) (sym e) v.raw) x o);
                ground = nested_ground sig u ∙ subst (λ w. IsTrue (is_ground w)) is_u (value_ground sig us variables p flat x o);
              }

    -- so, where they have their variables' sorts, they make a solution
    pub solution : IsWellSorted sig → (t : RawTerm) → IsValue sig t → evaluated sig us pattern ≡ t → AreValues sig us → AreOfSorts sig us (sorts_of variables) → IsSolution sig (nested sig p) (nested sig t) (meant sig s0) (meant sig (zip variables us))
    solution fitting t v e known have = record {
      substitution = substitution;
      extends = extends;
      variables = λ x. meant_bound sig (zip variables us) x ∙ bound_zip variables us x size ∙ is_in_variables x;
      matches = (equal_by_normal_form sig ok (instance_raw sig ok fitting (meant sig (zip variables us)) substitution raw) v.raw).1 (instance_form (λ i u g. (known i u g).canonical) ∙ e ∙ sym (fixed sig ok t v.canonical));
    }
      where
        substitution : IsSubstitution sig (meant sig (zip variables us))
        substitution = zip_substitution sig variables us distinct_met size known have

        extends : Extends (meant sig s0) (meant sig (zip variables us))
        extends =
            let g = met_grows (bound_variables s0) p in
            subst (λ xs. Extends (meant sig s0) (meant sig (zip xs us))) (sym g.1) (extended sig s0 g.0 us begins)

  -- a match, of any theory
  module _ (T : Theory) (t : RawTerm) (v : IsValue sig t) (us : List RawTerm) (m : IsMatch sig T pattern t (bound_values s0) us) where
    pub match_size : length us ≡ length variables
    match_size = m.size ∙ pattern_numbered.1

    match_canonical : (i : ℕ) (u : RawTerm) → slice_get us i ≡ Some u → IsCanonical sig u
    match_canonical i u g = by_case (cases_lt i (length (bound_values s0)))
      where
        by_case : (i < length (bound_values s0)) ⊎ (length (bound_values s0) ≤ i) → IsCanonical sig u
        by_case (inl l) = (old_value us m.begins match_size i u g l).canonical
        by_case (inr l) = (m.fits i u l g).0

    pub match_values : AreValues sig us
    match_values = values_known us m.begins match_size match_canonical t v m.gives

    pub match_solves : IsWellSorted sig → AreOfSorts sig us (sorts_of variables) → IsSolution sig (nested sig p) (nested sig t) (meant sig s0) (meant sig (zip variables us))
    match_solves fitting have = solution us m.begins match_size fitting t v m.gives match_values have

    -- each new value has its variable's kind where the term has the pattern's
    pub match_kinds : (K : ℕ) → HasKind sig (nested sig p) K → HasKind sig (nested sig t) K → (i : ℕ) (x : Variable) (u : RawTerm) → length (bound_values s0) ≤ i → slice_get variables i ≡ Some x → slice_get us i ≡ Some u → HasKind sig (nested sig u) x.sort
    match_kinds K k l i x u new d g =
        let whole : IsTermOf sig K (evaluated sig us pattern) = subst (IsTermOf sig K) (sym m.gives) (v.raw, l) in
        let here : IsTermOf sig x.sort (evaluated sig us (placed variables (variable x))) = value_kind sig ok variables us match_canonical p K (raw, k) whole x (stands_new i x d new) in
        subst (λ w. HasKind sig (nested sig w) x.sort) (at_index us m.begins match_size i x u d g) here.1
