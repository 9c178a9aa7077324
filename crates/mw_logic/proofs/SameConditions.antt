-- What holds or fails from a substitution does so from each same one.
use Rattle.std.specs.Prelude.{◌≡◌, ℕ, zero, suc, List, [], ◌∷◌, Bool, true, false, ◌||◌, cond, is_some, Option, Some, None, refl, bytes_eq}
use Rattle.std.proofs.Common.{inl, inr, arith, ap, subst, sym, ◌∙◌, ⊎_elim}
use Rattle.std.proofs.lemmas.Slice.Eq.{bytes_eq-Decides}
use Rattle.std.proofs.lemmas.Bool.{both_ways, and_parts, eqb-true, or_from}
use Rattle.mw_logic.specs.Term.{Variable, RawTerm}
use Rattle.mw_logic.specs.Signature.{Signature}
use Rattle.mw_logic.specs.Axioms.{EqualModulo, done}
use Rattle.mw_logic.specs.Substitution.{Substitution, value, instance, is_bound, same_variable, occurs, IsSubstitution, AgreesWith, IsSolution, SameSolution}
use Rattle.mw_logic.specs.Module.{Module, Fragment, equal, matches, has_sort, is_true}
use Rattle.mw_logic.specs.Proof.{Proof, Proofs, equality, transitivity}
use Rattle.mw_logic.specs.Proof as proof
use Rattle.mw_logic.specs.Judgements.{StepTest, Evaluates, HoldsAbove, FailsAbove, judgements_with}
use Rattle.mw_logic.proofs.Canonical.{nat_eq-refl}
use Rattle.mw_logic.proofs.AxiomLaws.{trans, sym as back}
use Rattle.mw_logic.proofs.InstanceLaws.{instance_same}
use Rattle.mw_logic.proofs.SameSolutions.{same_solution-sym}

-- r, with those values of s whose variables it does not bind
abbrev pub merged : Substitution → Substitution → Substitution
merged r [] = r
merged r (b ∷ s) = cond (is_bound r b.0) (merged r s) (b ∷ merged r s)

pub same_variable-refl : (x : Variable) → same_variable x x ≡ true
same_variable-refl x = rw ((bytes_eq-Decides x.name x.name).1 refl, nat_eq-refl x.sort) refl

pub same_variable-is : (x y : Variable) → same_variable x y ≡ true → x ≡ y
same_variable-is x y h =
    let p : (bytes_eq x.name y.name ≡ true) × _ = and_parts _ _ h in
    let n : x.name ≡ y.name = (bytes_eq-Decides x.name y.name).0 p.0 in
    let k : x.sort ≡ y.sort = eqb-true x.sort y.sort p.1 in
    subst (λ n. x ≡ record { name = n; sort = y.sort }) n (subst (λ k. x ≡ record { name = x.name; sort = k }) k refl)

value-merged : (r s : Substitution) (x : Variable) → value (merged r s) x ≡ cond (is_bound r x) (value r x) (value s x)
value-merged r [] x = by_value (value r x)
  where
    by_value : (v : Option RawTerm) → v ≡ cond (is_some v) v None
    by_value None = refl
    by_value (Some t) = refl
value-merged r (b ∷ s) x = by_bound (is_bound r b.0) refl (value-merged r s x) (same_variable b.0 x) refl
  where
    by_bound : (c : Bool) → is_bound r b.0 ≡ c → value (merged r s) x ≡ cond (is_bound r x) (value r x) (value s x) → (d : Bool) → same_variable b.0 x ≡ d →
        value (cond c (merged r s) (b ∷ merged r s)) x ≡ cond (is_bound r x) (value r x) (cond (same_variable b.0 x) (Some b.1) (value s x))
    by_bound true h e true k = let i : is_bound r x ≡ true = subst (λ y. is_bound r y ≡ true) (same_variable-is b.0 x k) h in e ∙ rw (i) refl
    by_bound true h e false k = e ∙ rw k refl
    by_bound false h e true k = let i : is_bound r x ≡ false = subst (λ y. is_bound r y ≡ false) (same_variable-is b.0 x k) h in rw (k, i) refl
    by_bound false h e false k = rw k e

bound-merged : (r s : Substitution) (x : Variable) → is_bound (merged r s) x ≡ (is_bound r x || is_bound s x)
bound-merged r s x = ap is_some (value-merged r s x) ∙ by_value (value r x)
  where
    by_value : (v : Option RawTerm) → is_some (cond (is_some v) v (value s x)) ≡ (is_some v || is_bound s x)
    by_value None = refl
    by_value (Some t) = refl

merged-substitution : (sig : Signature) (r s : Substitution) → IsSubstitution sig r → IsSubstitution sig s → IsSubstitution sig (merged r s)
merged-substitution sig r [] h k = h
merged-substitution sig r (b ∷ s) h k = by_bound (is_bound r b.0) refl (merged-substitution sig r s h k.4)
  where
    by_bound : (c : Bool) → is_bound r b.0 ≡ c → IsSubstitution sig (merged r s) → IsSubstitution sig (cond c (merged r s) (b ∷ merged r s))
    by_bound true e rest = rest
    by_bound false e rest = (bound-merged r s b.0 ∙ or_from _ _ e k.0, k.1, k.2, k.3, rest)

some_bound : (s : Substitution) (x : Variable) (t : RawTerm) → value s x ≡ Some t → is_bound s x ≡ true
some_bound s x t e = ap is_some e

pub bound_some : (s : Substitution) (x : Variable) → is_bound s x ≡ true → (t : RawTerm) × (value s x ≡ Some t)
bound_some s x h = by_value (value s x) refl h
  where
    by_value : (v : Option RawTerm) → value s x ≡ v → is_some v ≡ true → (t : RawTerm) × (value s x ≡ Some t)
    by_value None e h = cc
    by_value (Some t) e h = (t, e)

module _ (sig : Signature) where
  -- same substitutions bind the same variables
  same_bound : (r s : Substitution) → SameSolution sig r s → (x : Variable) → is_bound r x ≡ is_bound s x
  same_bound r s h x = by_value (is_bound r x) (is_bound s x) refl refl
    where
      by_value : (a b : Bool) → is_bound r x ≡ a → is_bound s x ≡ b → a ≡ b
      by_value true true e d = refl
      by_value false false e d = refl
      by_value true false e d = let (t, k) = bound_some r x e in let (u, l, p) = h.0 x t k in absurd (both_ways _ d (some_bound s x u l))
      by_value false true e d = let (t, k) = bound_some s x d in let (u, l, p) = h.1 x t k in absurd (both_ways _ e (some_bound r x u l))

  -- where r and s are the same, each solution that extends s is the same as one that extends r
  module _ (r s : Substitution) (h : SameSolution sig r s) (of_r : IsSubstitution sig r) (l a : RawTerm) (q : Substitution) (sol : IsSolution sig l a s q) where
    merged_value : (x : Variable) (b : Bool) → is_bound r x ≡ b → value (merged r q) x ≡ cond b (value r x) (value q x)
    merged_value x b e = subst (λ b. value (merged r q) x ≡ cond b (value r x) (value q x)) e (value-merged r q x)

    merged_same : SameSolution sig (merged r q) q
    merged_same = (there, back_again)
      where
        there : AgreesWith sig (merged r q) q
        there x t e = by_bound (is_bound r x) refl
          where
            by_bound : (b : Bool) → is_bound r x ≡ b → (u : RawTerm) × (value q x ≡ Some u) × EqualModulo sig t u
            by_bound true k = let (u, d, p) = h.0 x t (sym (merged_value x true k) ∙ e) in (u, sol.extends x u d, p)
            by_bound false k = (t, sym (merged_value x false k) ∙ e, done)

        back_again : AgreesWith sig q (merged r q)
        back_again x t e = by_bound (is_bound r x) refl
          where
            by_bound : (b : Bool) → is_bound r x ≡ b → (u : RawTerm) × (value (merged r q) x ≡ Some u) × EqualModulo sig t u
            by_bound true k =
                let (u, d) = bound_some r x k in
                let (v, f, p) = h.0 x u d in
                let i : v ≡ t = some_inj (sym (sol.extends x v f) ∙ e) in
                (u, merged_value x true k ∙ d, subst (λ v. EqualModulo sig v u) i (back p))
              where
                some_inj : {v t : RawTerm} → Some v ≡ Some t → v ≡ t
                some_inj e = cc
            by_bound false k = (t, merged_value x false k ∙ e, done)

    merged_solution : IsSolution sig l a r (merged r q)
    merged_solution = record {
      substitution = merged-substitution sig r q of_r sol.substitution;
      extends = λ x t e. merged_value x true (some_bound r x t e) ∙ e;
      variables = λ x. bound-merged r q x ∙ by_bound x (is_bound r x) refl;
      matches = trans (instance_same sig (merged r q) q merged_same l) sol.matches;
    }
      where
        by_bound : (x : Variable) (b : Bool) → is_bound r x ≡ b → (b || is_bound q x) ≡ (b || occurs x l)
        by_bound x true k = refl
        by_bound x false k = sol.variables x ∙ ap (λ c. c || occurs x l) (sym (same_bound r s h x) ∙ k)

-- an equality in front
proves_behind : (M : Module) (Step : StepTest) (n : ℕ) (p : Proof) (t u v : RawTerm) → EqualModulo M.signature t u → (judgements_with M Step n).Proves p u v → (judgements_with M Step n).Proves (transitivity equality p) t v
unfolding judgements_with
proves_behind M Step zero p t u v e h = (u, e, h)
proves_behind M Step (suc n) p t u v e h = (u, e, h)

-- what fails by evaluations from r fails so from each same substitution
module _ (M : Module) (Step : StepTest) (n : ℕ) where
  evaluates_same : (r s : Substitution) → SameSolution M.signature r s → (t : RawTerm) (p : Proof) (a : RawTerm) → Evaluates (judgements_with M Step n) (instance r t) p a → Evaluates (judgements_with M Step n) (instance s t) (transitivity equality p) a
  evaluates_same r s h t p a e = record {
    proves = proves_behind M Step n p (instance s t) (instance r t) a (back (instance_same M.signature r s h t)) e.proves;
    equational = omega (arith, e.equational);
    normal = e.normal;
  }

  fails_same : (C : List Fragment) (r s : Substitution) → SameSolution M.signature r s → IsSubstitution M.signature r → FailsAbove M (judgements_with M Step n) C r → FailsAbove M (judgements_with M Step n) C s
  fails_same [] r s h k f = f
  fails_same (equal u v ∷ C) r s h k (p, q, a, b, x, y, f) =
      (transitivity equality p, transitivity equality q, a, b, evaluates_same r s h u p a x, evaluates_same r s h v q b y, ⊎_elim inl (λ g. inr (fails_same C r s h k g)) f)
  fails_same (is_true b ∷ C) r s h k (p, a, x, f) = (transitivity equality p, a, evaluates_same r s h b p a x, ⊎_elim inl (λ g. inr (fails_same C r s h k g)) f)
  fails_same (has_sort t S ∷ C) r s h k (p, a, x, f) = (transitivity equality p, a, evaluates_same r s h t p a x, ⊎_elim inl (λ g. inr (fails_same C r s h k g)) f)
  fails_same (matches l t ∷ C) r s h k (p, a, x, f) = (
    transitivity equality p,
    a,
    evaluates_same r s h t p a x,
    λ q sol.
        let m : IsSolution M.signature l a r (merged r q) = merged_solution M.signature r s h k l a q sol in
        fails_same C (merged r q) q (merged_same M.signature r s h k l a q sol) m.substitution (f (merged r q) m),
  )

  -- what holds so from r holds from s, and reaches a same substitution
  holds_same : (C : List Fragment) (r s : Substitution) (es : Proofs) (q : Substitution) → SameSolution M.signature r s → IsSubstitution M.signature s → HoldsAbove M (judgements_with M Step n) C r es q →
      (es' : Proofs) × (q' : Substitution) × HoldsAbove M (judgements_with M Step n) C s es' q' × SameSolution M.signature q q'
  holds_same [] r s es q h k (e, d) = (proof.nil, s, (refl, refl), subst (λ q. SameSolution M.signature q s) d h)
  holds_same (equal u v ∷ C) r s es q h k (p, p', rest, a, b, e, x, y, m, f) =
      let (es', q', g, j) = holds_same C r s rest q h k f in (
        proof.cons (transitivity equality p) (proof.cons (transitivity equality p') es'),
        q',
        (transitivity equality p, transitivity equality p', es', a, b, refl, evaluates_same r s h u p a x, evaluates_same r s h v p' b y, m, g),
        j,
      )
  holds_same (is_true b ∷ C) r s es q h k (p, rest, a, e, x, m, f) =
      let (es', q', g, j) = holds_same C r s rest q h k f in
      (proof.cons (transitivity equality p) es', q', (transitivity equality p, es', a, refl, evaluates_same r s h b p a x, m, g), j)
  holds_same (has_sort t S ∷ C) r s es q h k (p, rest, a, e, x, m, f) =
      let (es', q', g, j) = holds_same C r s rest q h k f in
      (proof.cons (transitivity equality p) es', q', (transitivity equality p, es', a, refl, evaluates_same r s h t p a x, m, g), j)
  holds_same (matches l t ∷ C) r s es q h k (p, rest, a, r', e, x, sol, f) =
      let back_h : SameSolution M.signature s r = same_solution-sym M.signature r s h in
      let m : IsSolution M.signature l a s (merged s r') = merged_solution M.signature s r back_h k l a r' sol in
      let same : SameSolution M.signature r' (merged s r') = same_solution-sym M.signature (merged s r') r' (merged_same M.signature s r back_h k l a r' sol) in
      let (es', q', g, j) = holds_same C r' (merged s r') rest q same m.substitution f in
      (proof.cons (transitivity equality p) es', q', (transitivity equality p, es', a, merged s r', refl, evaluates_same r s h t p a x, m, g), j)

-- a condition that fails for a substitution fails for each same one, at each rank
pub Fails-same : (M : Module) (Step : StepTest) (n : ℕ) (C : List Fragment) (r s : Substitution) → SameSolution M.signature r s → IsSubstitution M.signature r → (judgements_with M Step n).Fails C r → (judgements_with M Step n).Fails C s
unfolding judgements_with
Fails-same M Step zero C r s h k f = f
Fails-same M Step (suc n) C r s h k f = fails_same M Step n C r s h k f

-- and one that holds for a substitution holds for each same one, and reaches a same one
pub Held-same : (M : Module) (Step : StepTest) (n : ℕ) (C : List Fragment) (r s : Substitution) (es : Proofs) (q : Substitution) → SameSolution M.signature r s → IsSubstitution M.signature s → (judgements_with M Step n).Held C r es q →
    (es' : Proofs) × (q' : Substitution) × (judgements_with M Step n).Held C s es' q' × SameSolution M.signature q q'
unfolding judgements_with
Held-same M Step zero [] r s es q h k (e, d) = (proof.nil, s, (refl, refl), subst (λ q. SameSolution M.signature q s) d h)
Held-same M Step zero (f ∷ C) r s es q h k x = absurd x
Held-same M Step (suc n) C r s es q h k f = holds_same M Step n C r s es q h k f
