-- Admitted terms are values; and in an admitted term the values of a match are admitted.
use Rattle.std.specs.Prelude.{◌≡◌, ◌≤◌, ◌<◌, ◌⊎◌, ℕ, zero, suc, List, [], ◌∷◌, length, false, Some, slice_get, refl}
use Rattle.std.specs.List.{zip}
use Rattle.std.proofs.Common.{sym, subst, ◌∙◌, inl, inr, arith}
use Rattle.std.proofs.lemmas.Bool.{cases_lt}
use Rattle.std.proofs.lemmas.Option.{none-some, same_Some, slice_get_within}
use Rattle.mw_logic.specs.Term.{Variable, RawTerm, variable}
use Rattle.mw_logic.specs.Signature.{Signature, IsRawTerm}
use Rattle.mw_logic.specs.Accepted.{IsAccepted}
use Rattle.mw_logic.specs.Parts.{nested}
use Rattle.mw_logic.specs.NormalForm.{normal_form, height, has_largest}
use Rattle.mw_logic.specs.Substitution.{Substitution, IsSubstitution}
use Rattle.mw_logic.proofs.Admitted.{admitted-iff}
use Rattle.mw_logic.proofs.Canonical.{IsCanonical, canonical}
use Rattle.mw_logic.proofs.CanonicalTerms.{fixed}
use Rattle.mw_canon.specs.Canonical.{IsAdmittedTerm, HasAdmittedValues, meant}
use Rattle.mw_position.specs.Variables.{bound_values, placed}
use Rattle.mw_position.proofs.Begins.{begins_get}
use Rattle.mw_matching.specs.Matches.{Theory, evaluated, IsMatch}
use Rattle.mw_solving.specs.Values.{IsValue, AreValues}
use Rattle.mw_solving.proofs.Limits.{IsWithinDepth, value_within}
use Rattle.mw_solving.proofs.Positions.{variable_at}
use Rattle.mw_solving.proofs.Solving.{variables, pattern, stands_new, at_index, match_size, match_values}

module _ (sig : Signature) (ok : IsAccepted sig) where
  pub admitted_value : (t : RawTerm) → IsAdmittedTerm sig t → IsValue sig t
  admitted_value t a = record {
    canonical = subst (IsCanonical sig) a.canonical (canonical sig ok (nested sig t));
    raw = a.raw;
    ground = a.admitted.ground;
  }

  pub admitted_values : (s : Substitution) → HasAdmittedValues sig s → AreValues sig (bound_values s)
  admitted_values [] h i u e = absurd (none-some u e)
  admitted_values (b ∷ s) h zero u e = subst (IsValue sig) (same_Some b.1 u e) (admitted_value b.1 h.0)
  admitted_values (b ∷ s) h (suc i) u e = admitted_values s h.1 i u e

  -- a value within the limits is admitted
  value_admitted : (u : RawTerm) → IsValue sig u → IsWithinDepth sig 1000 u → IsAdmittedTerm sig u
  value_admitted u v d =
      let is : normal_form sig (nested sig u) ≡ u = fixed sig ok u v.canonical in
      record {
        raw = v.raw;
        canonical = is;
        admitted = (admitted-iff sig ok v.raw).1 (v.ground, subst (λ w. height w ≤ 1000) (sym is) d.0, subst (λ w. has_largest sig w ≡ false) (sym is) d.1);
      }

  admitted_within : (u : RawTerm) → IsAdmittedTerm sig u → IsWithinDepth sig 1000 u
  admitted_within u a =
      let (g, d, l) = (admitted-iff sig ok a.raw).0 a.admitted in (subst (λ w. height w ≤ 1000) a.canonical d, subst (λ w. has_largest sig w ≡ false) a.canonical l)

  given_within : (s : Substitution) → HasAdmittedValues sig s → (i : ℕ) (u : RawTerm) → slice_get (bound_values s) i ≡ Some u → IsAdmittedTerm sig u
  given_within [] h i u e = absurd (none-some u e)
  given_within (b ∷ s) h zero u e = subst (IsAdmittedTerm sig) (same_Some b.1 u e) h.0
  given_within (b ∷ s) h (suc i) u e = given_within s h.1 i u e

  each_admitted : (xs : List Variable) (us : List RawTerm) → ((i : ℕ) (u : RawTerm) → slice_get us i ≡ Some u → IsAdmittedTerm sig u) → HasAdmittedValues sig (zip xs us)
  each_admitted [] us h = tt
  each_admitted (x ∷ xs) [] h = tt
  each_admitted (x ∷ xs) (u ∷ us) h = (h 0 u refl, each_admitted xs us (λ i. h (suc i)))

  -- the values of a match of an admitted term are admitted
  pub match_admitted : (p : RawTerm) (raw : IsRawTerm sig (nested sig p)) (s0 : Substitution) (given : IsSubstitution sig (meant sig s0)) (h : HasAdmittedValues sig s0) (T : Theory) (t : RawTerm) (a : IsAdmittedTerm sig t) (us : List RawTerm)
      → IsMatch sig T (pattern sig ok p raw s0 given (admitted_values s0 h)) t (bound_values s0) us → HasAdmittedValues sig (zip (variables sig ok p raw s0 given (admitted_values s0 h)) us)
  match_admitted p raw s0 given h T t a us m = each_admitted xs us (λ i u e. by_case i u e (cases_lt i (length (bound_values s0))))
    where
      old : AreValues sig (bound_values s0)
      old = admitted_values s0 h

      xs : List Variable
      xs = variables sig ok p raw s0 given old

      known : AreValues sig us
      known = match_values sig ok p raw s0 given old T t (admitted_value t a) us m

      by_case : (i : ℕ) (u : RawTerm) → slice_get us i ≡ Some u → (i < length (bound_values s0)) ⊎ (length (bound_values s0) ≤ i) → IsAdmittedTerm sig u
      by_case i u e (inl l) = given_within s0 h i u (sym (begins_get (bound_values s0) us i m.begins l) ∙ e)
      by_case i u e (inr l) =
          let w = slice_get_within us i u e in
          let size : length us ≡ length xs = match_size sig ok p raw s0 given old T t (admitted_value t a) us m in
          let (x, d) = variable_at xs i (omega (arith, w, size)) in
          let is_u : evaluated sig us (placed xs (variable x)) ≡ u = at_index sig ok p raw s0 given old us m.begins size i x u d e in
          let whole : IsWithinDepth sig 1000 (evaluated sig us (placed xs p)) = subst (IsWithinDepth sig 1000) (sym m.gives) (admitted_within t a) in
          value_admitted u (known i u e) (subst (IsWithinDepth sig 1000) is_u (value_within sig ok 999 xs us (λ i u e. (known i u e).canonical) p whole x (stands_new sig ok p raw s0 given old i x d l)))
