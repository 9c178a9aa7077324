-- Substitutions with the same values: what they mean, and conditions that fail for them.
use Rattle.std.specs.Prelude.{◌≡◌, ◌||◌, ℕ, zero, suc, List, [], ◌∷◌, Bool, true, false, cond, Option, Some, None, map, unwrap_or, option_map, is_some, slice_get, refl}
use Rattle.std.proofs.Common.{sym, subst, ap, ◌∙◌, inl, inr, ⊎_elim}
use Rattle.std.proofs.lemmas.Option.{none-some}
use Rattle.mw_logic.specs.Term.{Variable, RawTerm, numeral, quoted, variable, apply, RawTerms, nil, cons}
use Rattle.mw_logic.specs.Signature.{Signature}
use Rattle.mw_logic.specs.Axioms.{done}
use Rattle.mw_logic.specs.Substitution.{Substitution, value, instance, instances, occurs, same_variable, Extends, AgreesWith, IsSolution}
use Rattle.mw_logic.specs.Module.{Module, Fragment, equal, matches, has_sort, is_true}
use Rattle.mw_logic.specs.Parts.{nested}
use Rattle.mw_logic.specs.Judgements.{Judgements, judgements_with, judgements, Evaluates, FailsAbove, Fails}
use Rattle.mw_logic.proofs.SameConditions.{same_variable-is}
use Rattle.mw_canon.specs.Canonical.{meant}
use Rattle.mw_canon.specs.Tables.{pair_of}
use Rattle.mw_term.specs.declared.subst.Binding.{Binding}
use Rattle.mw_rule.specs.Finding.{Keeps}

-- each has the other's values
pub same_values : (r s : Substitution) → Extends r s → Extends s r → (x : Variable) → value r x ≡ value s x
same_values r s g h x = by_value (value r x) refl
  where
    by_other : value r x ≡ None → (o : Option RawTerm) → value s x ≡ o → value r x ≡ value s x
    by_other e None d = e ∙ sym d
    by_other e (Some t) d = h x t d ∙ sym d

    by_value : (o : Option RawTerm) → value r x ≡ o → value r x ≡ value s x
    by_value None e = by_other e (value s x) refl
    by_value (Some t) e = e ∙ sym (g x t e)

module _ (r s : Substitution) (same : (x : Variable) → value r x ≡ value s x) where
  mutual
    instance_alike : (t : RawTerm) → instance r t ≡ instance s t
    instance_alike (numeral n) = refl
    instance_alike (quoted q) = refl
    instance_alike (variable x) = ap (λ o. unwrap_or o (variable x)) (same x)
    instance_alike (apply f ts) = ap (apply f) (instances_alike ts)

    instances_alike : (ts : RawTerms) → instances r ts ≡ instances s ts
    instances_alike nil = refl
    instances_alike (cons t ts) = ap (λ u. cons u (instances r ts)) (instance_alike t) ∙ ap (cons (instance s t)) (instances_alike ts)

  solution_alike : (sig : Signature) (l a : RawTerm) (q : Substitution) → IsSolution sig l a s q → IsSolution sig l a r q
  solution_alike sig l a q h = record {
    substitution = h.substitution;
    extends = λ x t e. h.extends x t (sym (same x) ∙ e);
    variables = λ x. h.variables x ∙ ap (λ (o : Option RawTerm). is_some o || occurs x l) (sym (same x));
    matches = h.matches;
  }

  module _ (M : Module) (below : Judgements) where
    evaluates_alike : (t : RawTerm) (p : Rattle.mw_logic.specs.Proof.Proof) (a : RawTerm) → Evaluates below (instance r t) p a → Evaluates below (instance s t) p a
    evaluates_alike t p a h = subst (λ u. Evaluates below u p a) (instance_alike t) h

    fails_above_alike : (C : List Fragment) → FailsAbove M below C r → FailsAbove M below C s
    fails_above_alike [] f = f
    fails_above_alike (equal u v ∷ C) (p, q, a, b, x, y, f) =
        (p, q, a, b, evaluates_alike u p a x, evaluates_alike v q b y, ⊎_elim inl (λ g. inr (fails_above_alike C g)) f)
    fails_above_alike (is_true b ∷ C) (p, a, x, f) = (p, a, evaluates_alike b p a x, ⊎_elim inl (λ g. inr (fails_above_alike C g)) f)
    fails_above_alike (has_sort t S ∷ C) (p, a, x, f) = (p, a, evaluates_alike t p a x, ⊎_elim inl (λ g. inr (fails_above_alike C g)) f)
    fails_above_alike (matches l t ∷ C) (p, a, x, f) = (p, a, evaluates_alike t p a x, λ q h. f q (solution_alike M.signature l a q h))

-- a condition that fails for values fails for the same ones
pub fails_alike : (M : Module) (n : ℕ) (C : List Fragment) (r s : Substitution) → ((x : Variable) → value r x ≡ value s x) → Fails M n C r → Fails M n C s
unfolding judgements_with
fails_alike M zero C r s same f = f
fails_alike M (suc n) C r s same f = fails_above_alike r s same M (judgements M n) C f

module _ (sig : Signature) where
  -- the value of a variable in what a substitution means
  value_of_meant : (s : Substitution) (x : Variable) → value (meant sig s) x ≡ option_map (nested sig) (value s x)
  value_of_meant [] x = refl
  value_of_meant (b ∷ s) x = by_test (same_variable b.0 x) (value_of_meant s x)
    where
      by_test : (c : Bool) → value (meant sig s) x ≡ option_map (nested sig) (value s x) → cond c (Some (nested sig b.1)) (value (meant sig s) x) ≡ option_map (nested sig) (cond c (Some b.1) (value s x))
      by_test true h = refl
      by_test false h = h

  pub same_meant : (r s : Substitution) → ((x : Variable) → value r x ≡ value s x) → (x : Variable) → value (meant sig r) x ≡ value (meant sig s) x
  same_meant r s same x = value_of_meant r x ∙ ap (option_map (nested sig)) (same x) ∙ sym (value_of_meant s x)

  pub same_agrees : (r s : Substitution) → ((x : Variable) → value r x ≡ value s x) → AgreesWith sig r s
  same_agrees r s same x t e = (t, sym (same x) ∙ e, done)

-- a variable that has a value stands in a pair
pub bound_at : (bs : List Binding) (x : Variable) (t : RawTerm) → value (map pair_of bs) x ≡ Some t → (i : ℕ) × (b : Binding) × (slice_get bs i ≡ Some b) × (b.variable ≡ x)
bound_at [] x t e = absurd (none-some t e)
bound_at (b ∷ bs) x t e = by_test (bound_at bs x t) (same_variable b.variable x) refl e
  where
    by_test : (value (map pair_of bs) x ≡ Some t → (i : ℕ) × (a : Binding) × (slice_get bs i ≡ Some a) × (a.variable ≡ x))
        → (c : Bool) → same_variable b.variable x ≡ c → cond c (Some b.value) (value (map pair_of bs) x) ≡ Some t → (i : ℕ) × (a : Binding) × (slice_get (b ∷ bs) i ≡ Some a) × (a.variable ≡ x)
    by_test more true k e = (0, b, refl, same_variable-is b.variable x k)
    by_test more false k e = let (i, a, at, is) = more e in (suc i, a, at, is)

-- so it is enough to look at the variables of the pairs
pub all_kept : (bs : List Binding) (r : Substitution) → ((i : ℕ) (b : Binding) → slice_get bs i ≡ Some b → Keeps (map pair_of bs) r b.variable) → Extends (map pair_of bs) r
all_kept bs r h x t e = let (i, b, at, is) = bound_at bs x t e in subst (Keeps (map pair_of bs) r) is (h i b at) t e
