-- Substitutions that have values in the order of their variables, and what they mean.
use Rattle.std.specs.Prelude.{◌≡◌, ◌<◌, ℕ, zero, suc, List, [], ◌∷◌, ◌++◌, length, map, Bool, true, false, ◌||◌, cond, Option, Some, None, is_some, unwrap_or, slice_get, IsTrue, refl}
use Rattle.std.specs.List.{zip}
use Rattle.std.proofs.Common.{sym, ap, subst, ◌∙◌, arith}
use Rattle.std.proofs.lemmas.Bool.{both_ways, or_left, or_right}
use Rattle.std.proofs.lemmas.Option.{slice_get_within, get_or_from_slice_get, none-some, same_Some}
use Rattle.mw_logic.specs.Term.{Variable, RawTerm, variable, is_ground}
use Rattle.mw_logic.specs.Signature.{Signature, sort, IsRawTerm}
use Rattle.mw_logic.specs.Accepted.{IsAccepted}
use Rattle.mw_logic.specs.Axioms.{EqualModulo}
use Rattle.mw_logic.specs.Sorts.{HasSort}
use Rattle.mw_logic.specs.Parts.{nested}
use Rattle.mw_logic.specs.NormalForm.{normal_form}
use Rattle.mw_logic.specs.Substitution.{Substitution, same_variable, value, is_bound, IsSubstitution, Extends, AgreesWith, SameSolution}
use Rattle.mw_logic.proofs.AxiomLaws.{sym as back}
use Rattle.mw_logic.proofs.Canonical.{IsCanonical}
use Rattle.mw_logic.proofs.CanonicalTerms.{fixed}
use Rattle.mw_logic.proofs.Invariance.{normal_form-kept}
use Rattle.mw_logic.proofs.Soundness.{normal_form-sound}
use Rattle.mw_logic.proofs.SameConditions.{same_variable-is, same_variable-refl}
use Rattle.mw_canon.specs.Canonical.{meant}
use Rattle.mw_position.specs.Positions.{Begins}
use Rattle.mw_position.specs.Variables.{is_in, AreDistinct, place, sorts_of, bound_variables, bound_values}
use Rattle.mw_position.proofs.Meeting.{place_at}
use Rattle.mw_position.proofs.Placing.{value_of, values_of, bound_zip}
use Rattle.mw_solving.specs.Values.{IsValue, AreValues, AreOfSorts}

-- the variable at an index
pub place_of : (xs : List Variable) (i : ℕ) (x : Variable) → AreDistinct xs → slice_get xs i ≡ Some x → place x xs ≡ i
place_of xs i x d e = place_at xs i x d (slice_get_within xs i x e) (sym (get_or_from_slice_get xs i x x e))

pub stands_in : (xs : List Variable) (i : ℕ) (x : Variable) → slice_get xs i ≡ Some x → is_in x xs ≡ true
stands_in [] i x e = absurd (none-some x e)
stands_in (y ∷ ys) zero x e = let k : y ≡ x = same_Some y x e in subst (λ z. (same_variable z x || is_in x ys) ≡ true) (sym k) (or_left _ _ (same_variable-refl x))
stands_in (y ∷ ys) (suc i) x e = or_right (same_variable y x) (is_in x ys) (stands_in ys i x e)

pub variable_at : (xs : List Variable) (i : ℕ) → i < length xs → (x : Variable) × (slice_get xs i ≡ Some x)
variable_at [] i h = absurd (omega (arith, h))
variable_at (x ∷ xs) zero h = (x, refl)
variable_at (x ∷ xs) (suc i) h = variable_at xs i (omega (arith, h))

module _ (sig : Signature) where
  -- what a substitution of flattened terms means
  pub meant_variables : (s : Substitution) → bound_variables (meant sig s) ≡ bound_variables s
  meant_variables [] = refl
  meant_variables (b ∷ s) = ap (λ xs. b.0 ∷ xs) (meant_variables s)

  pub meant_zip : (xs : List Variable) (us : List RawTerm) → meant sig (zip xs us) ≡ zip xs (map (nested sig) us)
  meant_zip [] us = refl
  meant_zip (x ∷ xs) [] = refl
  meant_zip (x ∷ xs) (u ∷ us) = ap (λ s. (x, nested sig u) ∷ s) (meant_zip xs us)

  pub meant_bound : (s : Substitution) (x : Variable) → is_bound (meant sig s) x ≡ is_bound s x
  meant_bound [] x = refl
  meant_bound (b ∷ s) x = by_test (same_variable b.0 x) (meant_bound s x)
    where
      by_test : (c : Bool) → is_some (value (meant sig s) x) ≡ is_some (value s x) → is_some (cond c (Some (nested sig b.1)) (value (meant sig s) x)) ≡ is_some (cond c (Some b.1) (value s x))
      by_test true r = refl
      by_test false r = r

  -- ground raw terms of their variables' sorts
  pub zip_substitution : (xs : List Variable) (us : List RawTerm) → AreDistinct xs → length us ≡ length xs → AreValues sig us → AreOfSorts sig us (sorts_of xs) → IsSubstitution sig (meant sig (zip xs us))
  zip_substitution [] us d l v h = tt
  zip_substitution (x ∷ xs) [] d l v h = tt
  zip_substitution (x ∷ xs) (u ∷ us) d l v h =
      let k : length us ≡ length xs = omega (arith, l) in
      let w : IsValue sig u = v 0 u refl in (
        meant_bound (zip xs us) x ∙ bound_zip xs us x k ∙ d.0,
        w.ground,
        w.raw,
        h 0 u x.sort refl refl,
        zip_substitution xs us d.1 k (λ i. v (suc i)) (λ i. h (suc i)),
      )

  -- values that begin with those of a substitution extend it
  pub extended : (s : Substitution) (zs : List Variable) (us : List RawTerm) → Begins (bound_values s) us → Extends (meant sig s) (meant sig (zip (bound_variables s ++ zs) us))
  extended [] zs us b x t e = absurd (none-some t e)
  extended (b ∷ s) zs [] h x t e = absurd h
  extended (b ∷ s) zs (u ∷ us) h x t e = by_test (same_variable b.0 x) (extended s zs us h.1 x t) e
    where
      by_test : (c : Bool) → (value (meant sig s) x ≡ Some t → value (meant sig (zip (bound_variables s ++ zs) us)) x ≡ Some t)
          → cond c (Some (nested sig b.1)) (value (meant sig s) x) ≡ Some t → cond c (Some (nested sig u)) (value (meant sig (zip (bound_variables s ++ zs) us)) x) ≡ Some t
      by_test true r e = ap (λ v. Some (nested sig v)) (sym h.0) ∙ e
      by_test false r e = r e

  -- the values of a substitution
  pub values_ground : (s : Substitution) → IsSubstitution sig (meant sig s) → (i : ℕ) (u : RawTerm) → slice_get (bound_values s) i ≡ Some u → IsTrue (is_ground (nested sig u)) × IsRawTerm sig (nested sig u)
  values_ground [] h i u e = absurd (none-some u e)
  values_ground (b ∷ s) h zero u e = let k : b.1 ≡ u = same_Some b.1 u e in subst (λ u. IsTrue (is_ground (nested sig u)) × IsRawTerm sig (nested sig u)) k (h.1, h.2)
  values_ground (b ∷ s) h (suc i) u e = values_ground s h.4 i u e

  pub values_sorted : (s : Substitution) → IsSubstitution sig (meant sig s) → AreOfSorts sig (bound_values s) (sorts_of (bound_variables s))
  values_sorted [] h i u S e k = absurd (none-some u e)
  values_sorted (b ∷ s) h zero u S e k = let m : b.1 ≡ u = same_Some b.1 u e in let n : b.0.sort ≡ S = same_Some b.0.sort S k in subst (λ u. HasSort sig (nested sig u) (sort S)) m (subst (λ S. HasSort sig (nested sig b.1) (sort S)) n h.3)
  values_sorted (b ∷ s) h (suc i) u S e k = values_sorted s h.4 i u S e k

  module _ (ok : IsAccepted sig) where
    -- canonical terms that mean terms that are equal modulo the axioms are one
    pub same_term : (u w : RawTerm) → IsCanonical sig u → IsCanonical sig w → EqualModulo sig (nested sig u) (nested sig w) → u ≡ w
    same_term u w k l e = sym (fixed sig ok u k) ∙ normal_form-kept sig ok e ∙ fixed sig ok w l

    -- so values that make the same solution are the same
    pub same_values : (xs : List Variable) (us ws : List RawTerm) → AreDistinct xs → length us ≡ length xs → length ws ≡ length xs
        → ((i : ℕ) (u : RawTerm) → slice_get us i ≡ Some u → IsCanonical sig u) → ((i : ℕ) (w : RawTerm) → slice_get ws i ≡ Some w → IsCanonical sig w)
        → AgreesWith sig (meant sig (zip xs us)) (meant sig (zip xs ws)) → us ≡ ws
    same_values [] [] [] d l m k j a = refl
    same_values [] [] (w ∷ ws) d l m k j a = absurd (omega (arith, m))
    same_values [] (u ∷ us) ws d l m k j a = absurd (omega (arith, l))
    same_values (x ∷ xs) [] ws d l m k j a = absurd (omega (arith, l))
    same_values (x ∷ xs) (u ∷ us) [] d l m k j a = absurd (omega (arith, m))
    same_values (x ∷ xs) (u ∷ us) (w ∷ ws) d l m k j a =
        let others : us ≡ ws = same_values xs us ws d.1 (omega (arith, l)) (omega (arith, m)) (λ i. k (suc i)) (λ i. j (suc i)) behind in
        rw (first, others) refl
      where
        first : u ≡ w
        first =
            let here = same_variable-refl x in
            let (v, e, q) = a x (nested sig u) (rw here refl) in
            let f : nested sig w ≡ v = same_Some (nested sig w) v (rw here at e) in
            same_term u w (k 0 u refl) (j 0 w refl) (subst (EqualModulo sig (nested sig u)) (sym f) q)

        behind : AgreesWith sig (meant sig (zip xs us)) (meant sig (zip xs ws))
        behind y t e = by_test (same_variable x y) refl (a y t)
          where
            by_test : (c : Bool) → same_variable x y ≡ c
                → (cond c (Some (nested sig u)) (value (meant sig (zip xs us)) y) ≡ Some t → (v : RawTerm) × (cond c (Some (nested sig w)) (value (meant sig (zip xs ws)) y) ≡ Some v) × EqualModulo sig t v)
                → (v : RawTerm) × (value (meant sig (zip xs ws)) y ≡ Some v) × EqualModulo sig t v
            by_test false q r = r e
            by_test true q r =
                let b : is_bound (meant sig (zip xs us)) y ≡ true = ap is_some e in
                let n : is_bound (meant sig (zip xs us)) x ≡ false = meant_bound (zip xs us) x ∙ bound_zip xs us x (omega (arith, l)) ∙ d.0 in
                absurd (both_ways _ n (ap (is_bound (meant sig (zip xs us))) (same_variable-is x y q) ∙ b))

    -- the canonical forms of a substitution's values
    abbrev pub forms_of : Substitution → List Variable → List RawTerm
    forms_of s xs = map (normal_form sig) (values_of s xs)

    value_form : (s : Substitution) (xs : List Variable) (x : Variable) → value (meant sig (zip xs (forms_of s xs))) x ≡ cond (is_in x xs) (Some (nested sig (normal_form sig (value_of s x)))) None
    value_form s [] x = refl
    value_form s (y ∷ ys) x = by_test (same_variable y x) refl (value_form s ys x)
      where
        by_test : (c : Bool) → same_variable y x ≡ c → value (meant sig (zip ys (forms_of s ys))) x ≡ cond (is_in x ys) (Some (nested sig (normal_form sig (value_of s x)))) None
            → cond c (Some (nested sig (normal_form sig (value_of s y)))) (value (meant sig (zip ys (forms_of s ys))) x) ≡ cond (c || is_in x ys) (Some (nested sig (normal_form sig (value_of s x)))) None
        by_test true e r = ap (λ z. Some (nested sig (normal_form sig (value_of s z)))) (same_variable-is y x e)
        by_test false e r = r

    -- make the same solution
    pub same_solution : (s : Substitution) (xs : List Variable) → ((x : Variable) → is_bound s x ≡ is_in x xs) → ((x : Variable) (t : RawTerm) → value s x ≡ Some t → IsRawTerm sig t) → SameSolution sig s (meant sig (zip xs (forms_of s xs)))
    same_solution s xs b r = (there, back_again)
      where
        there : AgreesWith sig s (meant sig (zip xs (forms_of s xs)))
        there x t e =
            let i : is_in x xs ≡ true = sym (b x) ∙ ap is_some e in
            let v : value_of s x ≡ t = ap (λ o. unwrap_or o (variable x)) e in
            (nested sig (normal_form sig t), value_form s xs x ∙ rw i (ap (λ w. Some (nested sig (normal_form sig w))) v), normal_form-sound sig ok (r x t e))

        back_again : AgreesWith sig (meant sig (zip xs (forms_of s xs))) s
        back_again x t e = by_value (value s x) refl (value_form s xs x)
          where
            by_value : (o : Option RawTerm) → value s x ≡ o → value (meant sig (zip xs (forms_of s xs))) x ≡ cond (is_in x xs) (Some (nested sig (normal_form sig (unwrap_or (value s x) (variable x))))) None → (u : RawTerm) × (value s x ≡ Some u) × EqualModulo sig t u
            by_value None q f =
                let i : is_in x xs ≡ false = sym (b x) ∙ ap is_some q in
                let g : value (meant sig (zip xs (forms_of s xs))) x ≡ None = f ∙ rw i refl in
                absurd (none-some t (sym g ∙ e))
            by_value (Some u) q f =
                let i : is_in x xs ≡ true = sym (b x) ∙ ap is_some q in
                let g : Some t ≡ Some (nested sig (normal_form sig u)) = sym e ∙ f ∙ rw (i, q) refl in
                let k : t ≡ nested sig (normal_form sig u) = same_Some _ _ g in
                (u, q, subst (λ v. EqualModulo sig v u) (sym k) (back (normal_form-sound sig ok (r x u q))))
