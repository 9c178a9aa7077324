-- The values that the pattern of a match finds in a normal term, and values in another order.
use Rattle.std.specs.Prelude.{◌≡◌, ◌⊎◌, ℕ, zero, suc, List, [], ◌∷◌, Bool, true, false, ◌||◌, cond, Option, Some, None, is_some, unwrap_or, slice_get, IsTrue, IsFalse, refl}
use Rattle.std.specs.List.{zip}
use Rattle.std.proofs.Common.{sym, ap, subst, ◌∙◌, arith, inl, inr, ⊎_elim, true≢false}
use Rattle.std.proofs.lemmas.Bool.{both_ways, or_left, or_right}
use Rattle.std.proofs.lemmas.Option.{none-some, same_Some}
use Rattle.mw_logic.specs.Term.{Variable, RawTerm, variable, Context}
use Rattle.mw_logic.specs.Signature.{Signature, constant_of, numeral_of, IsRawTerm}
use Rattle.mw_logic.specs.Accepted.{IsAccepted, IsWellSorted}
use Rattle.mw_logic.specs.CanonicalPart.{IsPartOf}
use Rattle.mw_logic.specs.Substitution.{Substitution, same_variable, value, is_bound, occurs, IsSubstitution, IsSolution, Extends}
use Rattle.mw_logic.specs.Parts.{nested, IsPart}
use Rattle.mw_logic.specs.NormalForm.{normal_form, has_largest}
use Rattle.mw_logic.specs.Module.{Module}
use Rattle.mw_logic.specs.Judgements.{admitted_judgements}
use Rattle.mw_logic.proofs.CanonicalTerms.{fixed}
use Rattle.mw_logic.proofs.PartsOfNormalForm.{part_kept}
use Rattle.mw_logic.proofs.Ranks.{within_above, normal}
use Rattle.mw_logic.proofs.SameConditions.{same_variable-is, same_variable-refl, bound_some}
use Rattle.mw_logic.proofs.SolutionLaws.{instance_raw}
use Rattle.mw_canon.specs.Canonical.{meant}
use Rattle.mw_position.specs.Variables.{is_in, AreDistinct, place, bound_variables, bound_values}
use Rattle.mw_position.specs.Positions.{position}
use Rattle.mw_position.proofs.Placing.{value_of, values_of, bound_zip, is_bound_in, same_length, distinct_variables}
use Rattle.mw_solving.specs.Values.{IsValue, AreValues}
use Rattle.mw_solving.specs.Inside.{IsSolutionOf}
use Rattle.mw_solving.proofs.Candidates.{values_zipped}
use Rattle.mw_solving.proofs.Positions.{meant_bound, meant_variables}
use Rattle.mw_deduction.proofs.NormalBuilt.{part_normal}
use Rattle.mw_deduction.proofs.ValuesInside.{IsLeaf, of_identity, of_numeral, value_found}
use Rattle.mw_index.proofs.Rearranging.{zip_parts, rearranged_values, rearranged_size, rearranged_substitution}
use Rattle.mw_frames.specs.State.{IsNormalHere}
use Rattle.mw_frames.specs.Redex.{IsBare, value_in}
use Rattle.mw_frames.proofs.SmallValues.{value_small, normal_small, bare_small}
use Rattle.mw_frames.proofs.PlacedTerms.{all_small}
use Rattle.mw_reduce.specs.Evaluations.{AreBoundTo, bound_to, AreFound}

-- what a substitution has for a variable means what its meaning has
value_meant : (sig : Signature) (s : Substitution) (x : Variable) (u : RawTerm) → value s x ≡ Some u → value (meant sig s) x ≡ Some (nested sig u)
value_meant sig [] x u e = absurd (none-some u e)
value_meant sig (b ∷ s) x u e = by_test (value_meant sig s x u) (same_variable b.0 x) e
  where
    by_test : (value s x ≡ Some u → value (meant sig s) x ≡ Some (nested sig u)) → (c : Bool) → cond c (Some b.1) (value s x) ≡ Some u → cond c (Some (nested sig b.1)) (value (meant sig s) x) ≡ Some (nested sig u)
    by_test r true e = ap (λ u. Some (nested sig u)) (same_Some b.1 u e)
    by_test r false e = r e

-- what is normal at a rank is normal at the next one
pub normal_above : (M : Module) (n : ℕ) (t : RawTerm) → IsNormalHere M n t → IsNormalHere M (suc n) t
normal_above M n t h = record {
  raw = h.raw;
  canonical = h.canonical;
  normal = normal M (admitted_judgements M n).Fails (admitted_judgements M (suc n)).Fails (within_above M n (suc n) (omega arith)).Fails (nested M.signature t) h.normal;
}

-- a solution for the whole
pub solution_whole : (sig : Signature) (p t : RawTerm) (s0 s : Substitution) (ks : Option (List ℕ)) → IsSolutionOf sig false p t s0 ks s → IsSolution sig p (nested sig t) s0 s
solution_whole sig p t s0 s None h = h
solution_whole sig p t s0 s (Some ks) h = absurd h

leaf_bare : (sig : Signature) (v : RawTerm) → IsLeaf sig v → IsBare v
leaf_bare sig v (of_identity f (constant_of c) e) = tt
leaf_bare sig v (of_identity f (numeral_of m) e) = tt
leaf_bare sig v of_numeral = tt

-- The value of a variable by its place is the one that the substitution has.
placed_value : (xs : List Variable) (vs : List RawTerm) (x : Variable) → is_in x xs ≡ true → slice_get vs (place x xs) ≡ value (zip xs vs) x
placed_value [] vs x h = absurd (both_ways _ refl h)
placed_value (y ∷ ys) [] x h = refl
placed_value (y ∷ ys) (v ∷ vs) x h = by_test (placed_value ys vs x) (same_variable y x) h
  where
    by_test : (is_in x ys ≡ true → slice_get vs (place x ys) ≡ value (zip ys vs) x) → (b : Bool) → (b || is_in x ys) ≡ true
        → slice_get (v ∷ vs) (cond b 0 (suc (place x ys))) ≡ cond b (Some v) (value (zip ys vs) x)
    by_test r true h = refl
    by_test r false h = r h

value_is : (sig : Signature) (xs : List Variable) (vs : List RawTerm) (x : Variable) (u : RawTerm) → is_in x xs ≡ true → value (zip xs vs) x ≡ Some u → value_in sig xs vs x ≡ u
value_is sig xs vs x u h e = ap (λ o. unwrap_or o (variable (position (place x xs)))) (placed_value xs vs x h ∙ e)

-- each value is that of one of the variables
value_at : (s : Substitution) (i : ℕ) (u : RawTerm) → AreDistinct (bound_variables s) → slice_get (bound_values s) i ≡ Some u → (x : Variable) × (is_in x (bound_variables s) ≡ true) × (value s x ≡ Some u)
value_at [] i u d e = absurd (none-some u e)
value_at (b ∷ s) zero u d e = (b.0, or_left _ _ (same_variable-refl b.0), rw (same_variable-refl b.0) e)
value_at (b ∷ s) (suc i) u d e =
    let (x, h, v) = value_at s i u d.1 e in
    (x, or_right (same_variable b.0 x) _ h, behind x h v (same_variable b.0 x) refl)
  where
    behind : (x : Variable) → is_in x (bound_variables s) ≡ true → value s x ≡ Some u → (c : Bool) → same_variable b.0 x ≡ c → cond c (Some b.1) (value s x) ≡ Some u
    behind x h v false k = v
    behind x h v true k = absurd (both_ways _ (subst (λ y. is_in y (bound_variables s) ≡ false) (same_variable-is b.0 x k) d.0) h)

module _ (M : Module) (ok : IsAccepted M.signature) where
  abbrev sig : Signature
  sig = M.signature

  -- A pattern is matched with a normal term, from values on.
  module _ (sorted : IsWellSorted sig) (n : ℕ) (xs : List Variable) (vs : List RawTerm) (b : AreBoundTo M xs vs)
      (l : RawTerm) (raw : IsRawTerm sig l) (a : RawTerm) (settled : IsNormalHere M n a) (q : Substitution) (values : AreValues sig (bound_values q))
      (sol : IsSolution sig l (nested sig a) (bound_to sig xs vs) (meant sig q)) where
    abbrev zs : List Variable
    zs = bound_variables q

    bound_there : (x : Variable) → is_in x zs ≡ (is_in x xs || occurs x l)
    bound_there x =
        sym (is_bound_in q x) ∙ sym (meant_bound sig q x) ∙ sol.variables x ∙ ap (λ c. c || occurs x l) (meant_bound sig (zip xs vs) x ∙ bound_zip xs vs x b.size)

    -- what a variable has
    record Has (x : Variable) : Type 0 where
      term : RawTerm
      value : value q x ≡ Some term
      is_value : IsValue sig term
      is : value_in sig zs (bound_values q) x ≡ term

    has : (x : Variable) → is_in x zs ≡ true → Has x
    has x h =
        let (u, e) = bound_some q x (is_bound_in q x ∙ h) in
        let f : value (zip zs (bound_values q)) x ≡ Some u = ap (λ s. value s x) (zip_parts q) ∙ e in
        record { term = u; value = e; is_value = values (place x zs) u (placed_value zs (bound_values q) x h ∙ f); is = value_is sig zs (bound_values q) x u h f }

    found_here : (x : Variable) → IsTrue (is_in x zs) → IsFalse (is_in x xs) → IsNormalHere M n (value_in sig zs (bound_values q) x) ⊎ IsBare (value_in sig zs (bound_values q) x)
    found_here x h k =
        let u = has x h in
        let o : IsTrue (occurs x l) = ap (λ c. c || occurs x l) (sym k) ∙ sym (bound_there x) ∙ h in
        let z : normal_form sig (nested sig u.term) ≡ u.term = fixed sig ok u.term u.is_value.canonical in
        subst (λ t. IsNormalHere M n t ⊎ IsBare t) (sym u.is)
        (⊎_elim (λ (f : (C : Context) × IsPart sig (nested sig a) C (nested sig (normal_form sig (nested sig u.term)))).
        let p : IsPartOf sig false (normal_form sig (nested sig a)) (normal_form sig (nested sig (normal_form sig (nested sig u.term)))) = part_kept sig ok f.0 _ (λ y. absurd (true≢false (sym y))) settled.raw f.1 in
        let r : IsPartOf sig false a u.term = subst (λ t. IsPartOf sig false t u.term) settled.canonical (subst (IsPartOf sig false (normal_form sig (nested sig a))) (ap (λ t. normal_form sig (nested sig t)) z ∙ z) p) in
        inl (part_normal M ok sorted (admitted_judgements M n).Fails a u.term settled z r)) (λ f. inr (subst IsBare z (leaf_bare sig _ f)))
        (value_found sig ok (meant sig q) l (nested sig a) x (nested sig u.term) settled.raw (instance_raw sig ok sorted (meant sig q) sol.substitution raw) sol.matches o (value_meant sig q x u.term u.value)))

    kept_here : (x : Variable) → IsTrue (is_in x xs) → value_in sig zs (bound_values q) x ≡ value_in sig xs vs x
    kept_here x h =
        let (w, e) = bound_some (zip xs vs) x (bound_zip xs vs x b.size ∙ h) in
        let u = has x (bound_there x ∙ or_left _ _ h) in
        let m : nested sig u.term ≡ nested sig w = same_Some _ _ (sym (value_meant sig q x u.term u.value) ∙ sol.extends x (nested sig w) (value_meant sig (zip xs vs) x w e)) in
        let k : IsValue sig w = b.values (place x xs) w (placed_value xs vs x h ∙ e) in
        u.is ∙ sym (fixed sig ok u.term u.is_value.canonical) ∙ ap (normal_form sig) m ∙ fixed sig ok w k.canonical ∙ sym (value_is sig xs vs x w h e)

    small_here : (x : Variable) → is_in x zs ≡ true → has_largest sig (value_in sig zs (bound_values q) x) ≡ false
    small_here x h = by_test (is_in x xs) refl
      where
        by_test : (c : Bool) → is_in x xs ≡ c → has_largest sig (value_in sig zs (bound_values q) x) ≡ false
        by_test true k = ap (has_largest sig) (kept_here x k) ∙ value_small sig vs (place x xs) (position (place x xs)) b.small
        by_test false k = ⊎_elim (normal_small M ok n _) (bare_small sig _) (found_here x h k)

    bound_here : AreBoundTo M zs (bound_values q)
    bound_here = record {
      size = same_length q;
      values = values;
      substitution = subst (λ s. IsSubstitution sig (meant sig s)) (sym (zip_parts q)) sol.substitution;
      small = all_small sig (bound_values q) (λ i u e.
          let (x, h, v) = value_at q i u distinct e in
          ap (has_largest sig) (sym (value_is sig zs (bound_values q) x u h (ap (λ s. value s x) (zip_parts q) ∙ v))) ∙ small_here x h);
    }
      where
        distinct : AreDistinct zs
        distinct = subst AreDistinct (meant_variables sig q) (distinct_variables sig (meant sig q) sol.substitution)

    -- The values that the solution has, of its variables ys:
    module _ (ys : List Variable) (named : zs ≡ ys) where
      pub match_bound : AreBoundTo M ys (bound_values q)
      match_bound = subst (λ zs. AreBoundTo M zs (bound_values q)) named bound_here

      -- those that were found are normal, or have no arguments,
      pub match_found : (x : Variable) → IsTrue (is_in x ys) → IsFalse (is_in x xs) → IsNormalHere M n (value_in sig ys (bound_values q) x) ⊎ IsBare (value_in sig ys (bound_values q) x)
      match_found = subst (λ zs. (x : Variable) → IsTrue (is_in x zs) → IsFalse (is_in x xs) → IsNormalHere M n (value_in sig zs (bound_values q) x) ⊎ IsBare (value_in sig zs (bound_values q) x)) named found_here

      -- and those that were there are kept
      pub match_kept : (x : Variable) → IsTrue (is_in x xs) → value_in sig ys (bound_values q) x ≡ value_in sig xs vs x
      match_kept = subst (λ zs. (x : Variable) → IsTrue (is_in x xs) → value_in sig zs (bound_values q) x ≡ value_in sig xs vs x) named kept_here

      -- so what any match found is
      pub match_finds : (k : RawTerm) → AreFound M n k xs vs → AreFound M n k ys (bound_values q)
      match_finds k f x h o = by_test (is_in x xs) refl
        where
          by_test : (c : Bool) → is_in x xs ≡ c → IsNormalHere M n (value_in sig ys (bound_values q) x) ⊎ IsBare (value_in sig ys (bound_values q) x)
          by_test true i = subst (λ t. IsNormalHere M n t ⊎ IsBare t) (sym (match_kept x i)) (f x i o)
          by_test false i = match_found x h i

  -- The values of these variables in another order.
  module _ (xs : List Variable) (ws : List RawTerm) (b : AreBoundTo M xs ws) (zs : List Variable)
      (same : (x : Variable) → is_in x zs ≡ is_in x xs) where
    abbrev us : List RawTerm
    us = values_of (zip xs ws) zs

    values_here : AreValues sig (bound_values (zip xs ws))
    values_here = subst (AreValues sig) (sym (values_zipped xs ws b.size)) b.values

    binds_these : (x : Variable) → is_bound (zip xs ws) x ≡ is_in x zs
    binds_these x = bound_zip xs ws x b.size ∙ sym (same x)

    of_these : (s : Substitution) (zs : List Variable) (x : Variable) → is_in x zs ≡ true → value (zip zs (values_of s zs)) x ≡ Some (value_of s x)
    of_these s [] x h = absurd (both_ways _ refl h)
    of_these s (y ∷ ys) x h = by_test (of_these s ys x) (same_variable y x) refl h
      where
        by_test : (is_in x ys ≡ true → value (zip ys (values_of s ys)) x ≡ Some (value_of s x)) → (c : Bool) → same_variable y x ≡ c → (c || is_in x ys) ≡ true
            → cond c (Some (value_of s y)) (value (zip ys (values_of s ys)) x) ≡ Some (value_of s x)
        by_test r true e h = ap (λ z. Some (value_of s z)) (same_variable-is y x e)
        by_test r false e h = r h

    reordered_value : (x : Variable) (u : RawTerm) → value (zip xs ws) x ≡ Some u → (is_in x zs ≡ true) × (value (zip zs us) x ≡ Some u)
    reordered_value x u e =
        let h : is_in x zs ≡ true = sym (binds_these x) ∙ ap is_some e in
        (h, of_these (zip xs ws) zs x h ∙ ap (λ o. Some (unwrap_or o (variable x))) e)

    pub reordered_extends : Extends (bound_to sig xs ws) (bound_to sig zs us)
    reordered_extends x t e =
        let (u, f) = bound_some (zip xs ws) x (sym (meant_bound sig (zip xs ws) x) ∙ ap is_some e) in
        let k : nested sig u ≡ t = same_Some _ _ (sym (value_meant sig (zip xs ws) x u f) ∙ e) in
        value_meant sig (zip zs us) x u (reordered_value x u f).1 ∙ ap Some k

    pub reordered_same : (x : Variable) → IsTrue (is_in x zs) → value_in sig zs us x ≡ value_in sig xs ws x
    reordered_same x h =
        let (u, f) = bound_some (zip xs ws) x (binds_these x ∙ h) in
        value_is sig zs us x u h (reordered_value x u f).1 ∙ sym (value_is sig xs ws x u (sym (same x) ∙ h) f)

    pub reordered_found : (n : ℕ) (k : RawTerm) → AreFound M n k xs ws → AreFound M n k zs us
    reordered_found n k f x h o = subst (λ t. IsNormalHere M n t ⊎ IsBare t) (sym (reordered_same x h)) (f x (sym (same x) ∙ h) o)

    pub reordered_bound : AreDistinct zs → AreBoundTo M zs us
    reordered_bound distinct = record {
      size = rearranged_size sig ok (zip xs ws) values_here zs binds_these b.substitution;
      values = rearranged_values sig ok (zip xs ws) values_here zs binds_these;
      substitution = rearranged_substitution sig ok (zip xs ws) values_here zs binds_these b.substitution distinct;
      small = all_small sig us (each zs (λ x h. h));
    }
      where
        each : (ys : List Variable) → ((x : Variable) → is_in x ys ≡ true → is_in x zs ≡ true) → (i : ℕ) (u : RawTerm) → slice_get (values_of (zip xs ws) ys) i ≡ Some u → has_largest sig u ≡ false
        each [] h i u e = absurd (none-some u e)
        each (y ∷ ys) h zero u e =
            let k : is_in y xs ≡ true = sym (same y) ∙ h y (or_left _ _ (same_variable-refl y)) in
            let (w, f) = bound_some (zip xs ws) y (bound_zip xs ws y b.size ∙ k) in
            let is : value_in sig xs ws y ≡ u = value_is sig xs ws y w k f ∙ sym (ap (λ o. unwrap_or o (variable y)) f) ∙ same_Some _ _ e in
            ap (has_largest sig) (sym is) ∙ value_small sig ws (place y xs) (position (place y xs)) b.small
        each (y ∷ ys) h (suc i) u e = each ys (λ x k. h x (or_right (same_variable y x) (is_in x ys) k)) i u e
