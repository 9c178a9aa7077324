-- A solution by position has the same values in the order of the statement's variables.
use Rattle.std.specs.Prelude.{◌≡◌, ℕ, zero, suc, List, [], ◌∷◌, length, Bool, true, false, Some, cond, unwrap_or, slice_get, refl}
use Rattle.std.specs.List.{zip}
use Rattle.std.proofs.Common.{sym, ap, subst, ◌∙◌}
use Rattle.std.proofs.lemmas.List.{length-map}
use Rattle.std.proofs.lemmas.Option.{none-some, same_Some}
use Rattle.mw_logic.specs.Term.{Variable, RawTerm, variable}
use Rattle.mw_logic.specs.Signature.{Signature, sort}
use Rattle.mw_logic.specs.Accepted.{IsAccepted}
use Rattle.mw_logic.specs.Sorts.{HasSort}
use Rattle.mw_logic.specs.NormalForm.{normal_form}
use Rattle.mw_logic.specs.Parts.{nested}
use Rattle.mw_logic.specs.Substitution.{Substitution, value, same_variable, is_bound, IsSubstitution, IsSolution, SameSolution}
use Rattle.mw_logic.proofs.AxiomLaws.{trans, sym as back}
use Rattle.mw_logic.proofs.CanonicalTerms.{fixed}
use Rattle.mw_logic.proofs.InstanceLaws.{instance_same}
use Rattle.mw_logic.proofs.SameConditions.{bound_some}
use Rattle.mw_logic.proofs.SolutionLaws.{substitution_value}
use Rattle.mw_canon.specs.Canonical.{meant}
use Rattle.mw_position.specs.Variables.{is_in, AreDistinct, sorts_of, bound_variables, bound_values}
use Rattle.mw_position.proofs.Placing.{value_of, values_of, bound_zip}
use Rattle.mw_solving.specs.Values.{IsValue, AreValues, AreOfSorts}
use Rattle.mw_solving.proofs.Positions.{stands_in, meant_bound, zip_substitution, forms_of, same_solution}

-- a substitution is its variables with their values
pub zip_parts : (s : Substitution) → zip (bound_variables s) (bound_values s) ≡ s
zip_parts [] = refl
zip_parts (b ∷ s) = ap (λ s. b ∷ s) (zip_parts s)

-- what it has for a variable is one of its values, and means what its meaning has
value_found : (s : Substitution) (x : Variable) (u : RawTerm) → value s x ≡ Some u → (i : ℕ) × (slice_get (bound_values s) i ≡ Some u)
value_found [] x u e = absurd (none-some u e)
value_found (b ∷ s) x u e = by_test (value_found s x u) (same_variable b.0 x) e
  where
    by_test : (value s x ≡ Some u → (i : ℕ) × (slice_get (bound_values s) i ≡ Some u)) → (c : Bool) → cond c (Some b.1) (value s x) ≡ Some u → (i : ℕ) × (slice_get (bound_values (b ∷ s)) i ≡ Some u)
    by_test r true e = (0, e)
    by_test r false e = let (i, k) = r e in (suc i, k)

module _ (sig : Signature) where
  value_meant : (s : Substitution) (x : Variable) (u : RawTerm) → value s x ≡ Some u → value (meant sig s) x ≡ Some (nested sig u)
  value_meant [] x u e = absurd (none-some u e)
  value_meant (b ∷ s) x u e = by_test (value_meant s x u) (same_variable b.0 x) e
    where
      by_test : (value s x ≡ Some u → value (meant sig s) x ≡ Some (nested sig u)) → (c : Bool) → cond c (Some b.1) (value s x) ≡ Some u → cond c (Some (nested sig b.1)) (value (meant sig s) x) ≡ Some (nested sig u)
      by_test r true e = ap (λ u. Some (nested sig u)) (same_Some b.1 u e)
      by_test r false e = r e

  module _ (ok : IsAccepted sig) (s : Substitution) (values : AreValues sig (bound_values s)) (zs : List Variable) (bound : (x : Variable) → is_bound s x ≡ is_in x zs) where
    -- each of these variables has a value
    has_value : (i : ℕ) (x : Variable) → slice_get zs i ≡ Some x → (value s x ≡ Some (value_of s x)) × IsValue sig (value_of s x)
    has_value i x e =
        let (u, k) = bound_some s x (bound x ∙ stands_in zs i x e) in
        let is : value_of s x ≡ u = ap (λ o. unwrap_or o (variable x)) k in
        let (j, g) = value_found s x u k in
        (k ∙ ap Some (sym is), subst (IsValue sig) (sym is) (values j u g))

    value_at : (i : ℕ) (u : RawTerm) → slice_get (values_of s zs) i ≡ Some u → (x : Variable) × (slice_get zs i ≡ Some x) × (value_of s x ≡ u)
    value_at = at zs
      where
        at : (xs : List Variable) (i : ℕ) (u : RawTerm) → slice_get (values_of s xs) i ≡ Some u → (x : Variable) × (slice_get xs i ≡ Some x) × (value_of s x ≡ u)
        at [] i u e = absurd (none-some u e)
        at (x ∷ xs) zero u e = (x, refl, same_Some (value_of s x) u e)
        at (x ∷ xs) (suc i) u e = at xs i u e

    pub rearranged_values : AreValues sig (values_of s zs)
    rearranged_values i u e = let (x, k, is) = value_at i u e in subst (IsValue sig) is (has_value i x k).1

    forms_are : forms_of sig ok (meant sig s) zs ≡ values_of s zs
    forms_are = one_by_one zs (λ i x e. has_value i x e)
      where
        one_by_one : (xs : List Variable) → ((i : ℕ) (x : Variable) → slice_get xs i ≡ Some x → (value s x ≡ Some (value_of s x)) × IsValue sig (value_of s x)) → forms_of sig ok (meant sig s) xs ≡ values_of s xs
        one_by_one [] h = refl
        one_by_one (x ∷ xs) h =
            let (k, v) = h 0 x refl in
            let first : normal_form sig (value_of (meant sig s) x) ≡ value_of s x =
            ap (λ o. normal_form sig (unwrap_or o (variable x))) (value_meant s x (value_of s x) k) ∙ fixed sig ok (value_of s x) v.canonical in
            rw (first, one_by_one xs (λ i. h (suc i))) refl

    meant_is_bound : (x : Variable) → is_bound (meant sig s) x ≡ is_in x zs
    meant_is_bound x = meant_bound sig s x ∙ bound x

    module _ (substitution : IsSubstitution sig (meant sig s)) where
      pub rearranged_same : SameSolution sig (meant sig s) (meant sig (zip zs (values_of s zs)))
      rearranged_same =
          subst (λ us. SameSolution sig (meant sig s) (meant sig (zip zs us))) forms_are
          (same_solution sig ok (meant sig s) zs meant_is_bound (λ x t e. (substitution_value sig (meant sig s) substitution x t e).1))

      rearranged_sorts : AreOfSorts sig (values_of s zs) (sorts_of zs)
      rearranged_sorts i u S e f =
          let (x, k, is) = value_at i u e in
          let has : HasSort sig (nested sig (value_of s x)) (sort x.sort) = (substitution_value sig (meant sig s) substitution x (nested sig (value_of s x)) (value_meant s x (value_of s x) (has_value i x k).0)).2 in
          let S_is : x.sort ≡ S = same_Some x.sort S (sym (sort_got zs i x k) ∙ f) in
          subst (λ S. HasSort sig (nested sig u) (sort S)) S_is (subst (λ u. HasSort sig (nested sig u) (sort x.sort)) is has)
        where
          sort_got : (xs : List Variable) (i : ℕ) (x : Variable) → slice_get xs i ≡ Some x → slice_get (sorts_of xs) i ≡ Some x.sort
          sort_got [] i x e = absurd (none-some x e)
          sort_got (y ∷ ys) zero x e = ap (λ (z : Variable). Some z.sort) (same_Some y x e)
          sort_got (y ∷ ys) (suc i) x e = sort_got ys i x e

      pub rearranged_size : length (values_of s zs) ≡ length zs
      rearranged_size = length-map zs (value_of s)

      pub rearranged_substitution : AreDistinct zs → IsSubstitution sig (meant sig (zip zs (values_of s zs)))
      rearranged_substitution distinct = zip_substitution sig zs (values_of s zs) distinct rearranged_size rearranged_values rearranged_sorts

      -- so it is a solution still
      pub rearranged_solution : (p t : RawTerm) → AreDistinct zs → IsSolution sig p t [] (meant sig s) → IsSolution sig p t [] (meant sig (zip zs (values_of s zs)))
      rearranged_solution p t distinct sol = record {
        substitution = rearranged_substitution distinct;
        extends = λ x t e. absurd (none-some t e);
        variables = λ x. meant_bound sig (zip zs (values_of s zs)) x ∙ bound_zip zs (values_of s zs) x rearranged_size ∙ sym (meant_is_bound x) ∙ sol.variables x;
        matches = trans (back (instance_same sig (meant sig s) (meant sig (zip zs (values_of s zs))) rearranged_same p)) sol.matches;
      }
