-- Canonical instances of terms with positions for distinct variables, by a value for each of these.
use Rattle.std.specs.Prelude.{◌≡◌, ◌⊎◌, ◌&&◌, ℕ, zero, suc, List, [], ◌∷◌, length, map, Bool, true, false, Option, Some, None, option_map, unwrap_or, slice_get, is_some, IsTrue, refl}
use Rattle.std.specs.List.{zip}
use Rattle.std.proofs.Common.{sym, subst, ap, ◌∙◌, arith, inl, ⊎_elim}
use Rattle.std.proofs.lemmas.Bool.{both_ways, or_cases, or_left, or_right, or_from}
use Rattle.std.proofs.lemmas.List.{length-map}
use Rattle.std.proofs.lemmas.Option.{slice_get_within, slice_get-map, same_Some}
use Rattle.mw_logic.specs.Term.{Variable, RawTerm, numeral, quoted, variable, apply, RawTerms, nil, cons}
use Rattle.mw_logic.specs.Terms.{terms_of}
use Rattle.mw_logic.specs.Signature.{Signature, IsRawTerm}
use Rattle.mw_logic.specs.Accepted.{IsAccepted, IsWellSorted}
use Rattle.mw_logic.specs.Axioms.{EqualModulo}
use Rattle.mw_logic.specs.Kinds.{is_successor}
use Rattle.mw_logic.specs.Substitution.{Substitution, value, instance, occurs, occurs_in, IsSubstitution}
use Rattle.mw_logic.specs.Parts.{nested}
use Rattle.mw_logic.specs.NormalForm.{is_comm, arranged, normal_form, is_largest, has_largest, some_largest}
use Rattle.mw_logic.proofs.InstanceLaws.{occurs_kept, instance_equal}
use Rattle.mw_logic.proofs.Invariance.{normal_form-kept}
use Rattle.mw_logic.proofs.SameConditions.{same_variable-is}
use Rattle.mw_logic.proofs.SolutionLaws.{substitution_kinds}
use Rattle.mw_logic.proofs.Soundness.{normal_form-sound}
use Rattle.mw_canon.specs.Canonical.{meant}
use Rattle.mw_position.specs.Positions.{fill}
use Rattle.mw_position.specs.Variables.{is_in, place, AreDistinct, placed, all_placed}
use Rattle.mw_position.proofs.Placing.{value_of, values_of, values_zip, at_place, bound_zip}
use Rattle.mw_matching.specs.Matches.{evaluated, evaluated_all}
use Rattle.mw_matching.proofs.Evaluated.{evaluated_is}
use Rattle.mw_solving.specs.Values.{AreValues}
use Rattle.mw_solving.proofs.Nesting.{nested_placed, nested_occurs, filled}
use Rattle.mw_solving.proofs.Positions.{place_of, stands_in, variable_at, meant_zip}
use Rattle.mw_deduction.proofs.Largest.{largest_applied}
use Rattle.mw_frames.specs.Redex.{value_in}

-- where `s_` stands on the largest numeral in none of the terms, it does so in no term of the list
pub all_small : (sig : Signature) (vs : List RawTerm) → ((i : ℕ) (u : RawTerm) → slice_get vs i ≡ Some u → has_largest sig u ≡ false) → some_largest sig (terms_of vs) ≡ false
all_small sig [] h = refl
all_small sig (v ∷ vs) h = or_from (has_largest sig v) (some_largest sig (terms_of vs)) (h zero v refl) (all_small sig vs (λ i u e. h (suc i) u e))

-- u is the value of one of the variables
pub record IsValueOf (sig : Signature) (xs : List Variable) (vs : List RawTerm) (u : RawTerm) : Type 0 where
  pub of : Variable
  pub within : IsTrue (is_in of xs)
  pub place : value_in sig xs vs of ≡ u
  pub value : value (meant sig (zip xs vs)) of ≡ Some (nested sig u)

module _ (sig : Signature) (xs : List Variable) (distinct : AreDistinct xs) (vs : List RawTerm) (size : length vs ≡ length xs) where
  pub value_here : (i : ℕ) (u : RawTerm) → slice_get vs i ≡ Some u → IsValueOf sig xs vs u
  value_here i u g =
      let b = slice_get_within vs i u g in
      let (x, d) = variable_at xs i (omega (arith, b, size)) in
      let h : is_in x xs ≡ true = stands_in xs i x d in
      let us : List RawTerm = map (nested sig) vs in
      let l : length us ≡ length xs = length-map vs (nested sig) ∙ size in
      let p : place x xs ≡ i = place_of xs i x distinct d in
      let e : slice_get us i ≡ Some (value_of (zip xs us) x) =
      ap (slice_get us) (sym p) ∙ ap (λ ws. slice_get ws (place x xs)) (sym (values_zip xs us distinct l)) ∙ at_place (zip xs us) xs x h in
      let f : slice_get us i ≡ Some (nested sig u) = slice_get-map (nested sig) vs i ∙ ap (option_map (nested sig)) g in
      let k : value_of (zip xs us) x ≡ nested sig u = same_Some _ _ (sym e ∙ f) in
      record {
        of = x;
        within = h;
        place = ap (λ j. unwrap_or (slice_get vs j) (placed xs (variable x))) p ∙ ap (λ o. unwrap_or o (placed xs (variable x))) g;
        value = ap (λ s. value s x) (meant_zip sig xs vs) ∙ bound x (value (zip xs us) x) (bound_zip xs us x l ∙ h) ∙ ap Some k;
      }
    where
      bound : (x : Variable) (o : Option RawTerm) → is_some o ≡ true → o ≡ Some (unwrap_or o (variable x))
      bound x None h = absurd (both_ways _ refl h)
      bound x (Some v) h = refl

  -- the canonical instance of a term with these variables alone is that of its canonical form
  pub instance_placed : IsAccepted sig → IsWellSorted sig → AreValues sig vs → IsSubstitution sig (meant sig (zip xs vs)) → (t : RawTerm) → IsRawTerm sig t → ((x : Variable) → IsTrue (occurs x t) → IsTrue (is_in x xs))
      → evaluated sig vs (placed xs (normal_form sig t)) ≡ normal_form sig (instance (meant sig (zip xs vs)) t)
  instance_placed ok sorted values is t raw h =
      let full : Substitution = meant sig (zip xs vs) in
      let p : RawTerm = normal_form sig t in
      let us : List RawTerm = map (nested sig) vs in
      let z : Substitution = zip xs us in
      let e : EqualModulo sig t (nested sig p) = normal_form-sound sig ok raw in
      let q : normal_form sig (instance full t) ≡ normal_form sig (instance full (nested sig p)) = normal_form-kept sig ok (instance_equal sig full (substitution_kinds sig ok sorted full is) e) in
      let a : fill (values_of z xs) (placed xs (nested sig p)) ≡ instance z (nested sig p) = filled z xs (nested sig p) (λ x o. h x (occurs_kept sig x e ∙ o)) in
      let b : values_of z xs ≡ us = values_zip xs us distinct (length-map vs (nested sig) ∙ size) in
      let c : instance full (nested sig p) ≡ fill us (nested sig (placed xs p)) =
      ap (λ s. instance s (nested sig p)) (meant_zip sig xs vs) ∙ sym a ∙ ap (λ ws. fill ws (placed xs (nested sig p))) b ∙ ap (fill us) (sym (nested_placed sig xs p)) in
      sym (q ∙ ap (normal_form sig) c ∙ evaluated_is sig ok vs (λ i u g. (values i u g).canonical) (placed xs p))

module _ (sig : Signature) (ok : IsAccepted sig) (xs : List Variable) (vs : List RawTerm) where
  -- where `s_` stands on the largest numeral in the value of a variable of p, it does so in the instance of p
  mutual
    pub in_instance : (p : RawTerm) (x : Variable) → IsTrue (occurs x p) → has_largest sig (value_in sig xs vs x) ≡ true → has_largest sig (evaluated sig vs (placed xs p)) ≡ true
    in_instance (numeral n) x o h = absurd (both_ways _ refl o)
    in_instance (quoted q) x o h = absurd (both_ways _ refl o)
    in_instance (variable y) x o h = subst (λ z. has_largest sig (value_in sig xs vs z) ≡ true) (sym (same_variable-is y x o)) h
    in_instance (apply f ps) x o h =
        largest_applied sig ok f (evaluated_all sig vs (all_placed xs ps)) ∙ or_right (is_successor sig f && is_largest (arranged (is_comm sig f) (evaluated_all sig vs (all_placed xs ps)))) _ (in_instances ps x o h)

    in_instances : (ps : RawTerms) (x : Variable) → IsTrue (occurs_in x ps) → has_largest sig (value_in sig xs vs x) ≡ true → some_largest sig (evaluated_all sig vs (all_placed xs ps)) ≡ true
    in_instances nil x o h = absurd (both_ways _ refl o)
    in_instances (cons p ps) x o h = ⊎_elim
        (λ k. or_left (has_largest sig (evaluated sig vs (placed xs p))) (some_largest sig (evaluated_all sig vs (all_placed xs ps))) (in_instance p x k h))
        (λ k. or_right (has_largest sig (evaluated sig vs (placed xs p))) (some_largest sig (evaluated_all sig vs (all_placed xs ps))) (in_instances ps x k h))
        (or_cases (occurs x p) (occurs_in x ps) o)

  module _ (distinct : AreDistinct xs) (size : length vs ≡ length xs) where
    -- so where it does in no instance of l, it does in no value, if that is known of those of other variables
    pub values_small : (l w : RawTerm) → IsRawTerm sig l → ((x : Variable) → IsTrue (is_in x xs) → IsTrue (occurs x l) ⊎ (has_largest sig (value_in sig xs vs x) ≡ false))
        → evaluated sig vs (placed xs (normal_form sig l)) ≡ w → has_largest sig w ≡ false → some_largest sig (terms_of vs) ≡ false
    values_small l w raw known is h = all_small sig vs one
      where
        one : (i : ℕ) (u : RawTerm) → slice_get vs i ≡ Some u → has_largest sig u ≡ false
        one i u g = by_test (has_largest sig u) refl
          where
            found : (x : IsValueOf sig xs vs u) → IsTrue (occurs x.of l) → has_largest sig u ≡ true → true ≡ false
            found x o e =
                let p : RawTerm = normal_form sig l in
                let q : occurs x.of l ≡ occurs x.of p = occurs_kept sig x.of (normal_form-sound sig ok raw) ∙ nested_occurs sig x.of p in
                absurd (both_ways _ h (ap (has_largest sig) (sym is) ∙ in_instance p x.of (sym q ∙ o) (ap (has_largest sig) x.place ∙ e)))

            by_test : (b : Bool) → has_largest sig u ≡ b → b ≡ false
            by_test false e = refl
            by_test true e =
                let x = value_here sig xs distinct vs size i u g in
                ⊎_elim (λ o. found x o e) (λ k. absurd (both_ways _ k (ap (has_largest sig) x.place ∙ e))) (known x.of x.within)

    pub left_small : (l w : RawTerm) → IsRawTerm sig l → ((x : Variable) → IsTrue (is_in x xs) → IsTrue (occurs x l)) → evaluated sig vs (placed xs (normal_form sig l)) ≡ w → has_largest sig w ≡ false
        → some_largest sig (terms_of vs) ≡ false
    left_small l w raw all = values_small l w raw (λ x i. inl (all x i))
