-- A substitution on some of its variables is one, and gives a term that has only these the same instance. An instance of a term all of whose variables are
-- bound is ground.
use Rattle.std.specs.Prelude.{◌≡◌, List, [], ◌∷◌, Bool, true, false, ◌&&◌, ◌||◌, cond, Option, Some, None, unwrap_or, is_some, IsTrue, refl}
use Rattle.std.proofs.Common.{sym, subst, ap, ◌∙◌, ⊎_elim}
use Rattle.std.proofs.lemmas.Bool.{both_ways, and_parts, and_from, and_right, or_left, or_right, or_cases}
use Rattle.mw_logic.specs.Term.{Variable, RawTerm, RawTerms, numeral, quoted, variable, apply, nil, cons, is_ground, are_ground}
use Rattle.mw_logic.specs.Signature.{Signature}
use Rattle.mw_logic.specs.Substitution.{Substitution, value, same_variable, is_bound, binds, binds_all, IsSubstitution, Extends, instance, instances, occurs, occurs_in}
use Rattle.mw_logic.specs.Module.{Fragment, equal, matches, has_sort, is_true}
use Rattle.mw_logic.specs.Confluence.{HasOnly, AreBound}
use Rattle.mw_logic.proofs.SolutionLaws.{substitution_value}
use Rattle.mw_logic.proofs.SameConditions.{same_variable-is, same_variable-refl, bound_some}

-- the variables of each argument are among those of all
at_head : {b : Variable → Bool} (t : RawTerm) (ts : RawTerms) → ((x : Variable) → IsTrue (occurs_in x (cons t ts)) → IsTrue (b x)) → HasOnly b t
at_head t ts h x o = h x (or_left (occurs x t) (occurs_in x ts) o)

at_tail : {b : Variable → Bool} (t : RawTerm) (ts : RawTerms) → ((x : Variable) → IsTrue (occurs_in x (cons t ts)) → IsTrue (b x)) →
    (x : Variable) → IsTrue (occurs_in x ts) → IsTrue (b x)
at_tail t ts h x o = h x (or_right (occurs x t) (occurs_in x ts) o)

-- what `binds` tests holds of each variable
mutual
  pub binds_each : (s : Substitution) (t : RawTerm) → IsTrue (binds s t) → HasOnly (is_bound s) t
  binds_each s (numeral n) h x o = absurd (both_ways false refl o)
  binds_each s (quoted q) h x o = absurd (both_ways false refl o)
  binds_each s (variable y) h x o = subst (λ z. IsTrue (is_bound s z)) (same_variable-is y x o) h
  binds_each s (apply f ts) h x o = binds_every s ts h x o

  binds_every : (s : Substitution) (ts : RawTerms) → IsTrue (binds_all s ts) → (x : Variable) → IsTrue (occurs_in x ts) → IsTrue (is_bound s x)
  binds_every s nil h x o = absurd (both_ways false refl o)
  binds_every s (cons t ts) h x o =
      let p = and_parts _ _ h in ⊎_elim (λ a. binds_each s t p.0 x a) (λ a. binds_every s ts p.1 x a) (or_cases (occurs x t) (occurs_in x ts) o)

-- two tests that agree on each variable let the same sides be bound
pub AreBound-same : (C : List Fragment) {b c : Variable → Bool} → ((x : Variable) → b x ≡ c x) → AreBound b C → AreBound c C
AreBound-same [] h k = tt
AreBound-same (equal u v ∷ C) h k = ((λ x o. sym (h x) ∙ k.0 x o), (λ x o. sym (h x) ∙ k.1 x o), AreBound-same C h k.2)
AreBound-same (is_true t ∷ C) h k = ((λ x o. sym (h x) ∙ k.0 x o), AreBound-same C h k.1)
AreBound-same (has_sort t S ∷ C) h k = ((λ x o. sym (h x) ∙ k.0 x o), AreBound-same C h k.1)
AreBound-same (matches p t ∷ C) h k = ((λ x o. sym (h x) ∙ k.0 x o), AreBound-same C (λ x. ap (λ d. d || occurs x p) (h x)) k.1)

-- the substitution on these variables alone
abbrev pub restricted : (Variable → Bool) → Substitution → Substitution
restricted b [] = []
restricted b (c ∷ s) = cond (b c.0) (c ∷ restricted b s) (restricted b s)

pub value-restricted : (b : Variable → Bool) (s : Substitution) (x : Variable) → value (restricted b s) x ≡ cond (b x) (value s x) None
value-restricted b [] x = by_choice (b x)
  where
    by_choice : (c : Bool) → None ≡ cond {A = Option RawTerm} c None None
    by_choice true = refl
    by_choice false = refl
value-restricted b (c ∷ s) x = by_tests (value-restricted b s x) (same_variable c.0 x) refl (b c.0) refl
  where
    by_tests : value (restricted b s) x ≡ cond (b x) (value s x) None → (m : Bool) → same_variable c.0 x ≡ m → (k : Bool) → b c.0 ≡ k →
        value (cond k (c ∷ restricted b s) (restricted b s)) x ≡ cond (b x) (cond m (Some c.1) (value s x)) None
    by_tests h false e true f = rw e h
    by_tests h false e false f = h
    by_tests h true e true f = let i : b x ≡ true = ap b (sym (same_variable-is c.0 x e)) ∙ f in rw (e, i) refl
    by_tests h true e false f = let i : b x ≡ false = ap b (sym (same_variable-is c.0 x e)) ∙ f in h ∙ rw i refl

bound-restricted : (b : Variable → Bool) (s : Substitution) (x : Variable) → is_bound (restricted b s) x ≡ (b x && is_bound s x)
bound-restricted b s x = ap is_some (value-restricted b s x) ∙ by_choice (b x)
  where
    by_choice : (c : Bool) → is_some (cond c (value s x) None) ≡ (c && is_some (value s x))
    by_choice true = refl
    by_choice false = refl

-- where these variables are bound, no others are
pub bound_only : (b : Variable → Bool) (s : Substitution) → ((x : Variable) → IsTrue (b x) → IsTrue (is_bound s x)) → (x : Variable) → is_bound (restricted b s) x ≡ b x
bound_only b s h x = bound-restricted b s x ∙ absorbed (b x) (is_bound s x) (h x)
  where
    absorbed : (c d : Bool) → (IsTrue c → IsTrue d) → (c && d) ≡ c
    absorbed true d g = g refl
    absorbed false d g = refl

pub restricted-extends : (b : Variable → Bool) (s : Substitution) → Extends (restricted b s) s
restricted-extends b s x t e = by_choice (b x) (sym (value-restricted b s x) ∙ e)
  where
    by_choice : (c : Bool) → cond c (value s x) None ≡ Some t → value s x ≡ Some t
    by_choice true h = h
    by_choice false h = cc

pub restricted-substitution : (sig : Signature) (b : Variable → Bool) (s : Substitution) → IsSubstitution sig s → IsSubstitution sig (restricted b s)
restricted-substitution sig b [] h = tt
restricted-substitution sig b (c ∷ s) h = by_choice (restricted-substitution sig b s h.4) (b c.0)
  where
    by_choice : IsSubstitution sig (restricted b s) → (k : Bool) → IsSubstitution sig (cond k (c ∷ restricted b s) (restricted b s))
    by_choice r true = (bound-restricted b s c.0 ∙ and_right (b c.0) (is_bound s c.0) h.0, h.1, h.2, h.3, r)
    by_choice r false = r

-- a term whose variables are all bound has the same instance by each substitution that extends this one
module _ (s r : Substitution) (e : Extends s r) where
  mutual
    pub instance_extended : (t : RawTerm) → HasOnly (is_bound s) t → instance s t ≡ instance r t
    instance_extended (numeral n) h = refl
    instance_extended (quoted q) h = refl
    instance_extended (variable x) h = let (t, k) = bound_some s x (h x (same_variable-refl x)) in ap (λ o. unwrap_or o (variable x)) (k ∙ sym (e x t k))
    instance_extended (apply f ts) h = ap (apply f) (instances_extended ts h)

    instances_extended : (ts : RawTerms) → ((x : Variable) → IsTrue (occurs_in x ts) → IsTrue (is_bound s x)) → instances s ts ≡ instances r ts
    instances_extended nil h = refl
    instances_extended (cons t ts) h = let a = instance_extended t (at_head t ts h) in let b = instances_extended ts (at_tail t ts h) in rw (a, b) refl

-- and the instance is ground
module _ (sig : Signature) (s : Substitution) (is : IsSubstitution sig s) where
  mutual
    pub instance_ground : (t : RawTerm) → HasOnly (is_bound s) t → IsTrue (is_ground (instance s t))
    instance_ground (numeral n) h = refl
    instance_ground (quoted q) h = refl
    instance_ground (variable x) h =
        let (t, e) = bound_some s x (h x (same_variable-refl x)) in
        subst (λ v. IsTrue (is_ground (unwrap_or v (variable x)))) (sym e) (substitution_value sig s is x t e).0
    instance_ground (apply f ts) h = instances_ground ts h

    instances_ground : (ts : RawTerms) → ((x : Variable) → IsTrue (occurs_in x ts) → IsTrue (is_bound s x)) → IsTrue (are_ground (instances s ts))
    instances_ground nil h = refl
    instances_ground (cons t ts) h =
        and_from (is_ground (instance s t)) (are_ground (instances s ts)) (instance_ground t (at_head t ts h)) (instances_ground ts (at_tail t ts h))
