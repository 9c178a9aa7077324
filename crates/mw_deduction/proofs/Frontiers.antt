-- How the alternatives of a condition are worked off.
use Rattle.std.specs.Prelude.{◌≡◌, ◌⊎◌, ℕ, suc, List, [], ◌∷◌, ◌++◌, true, refl}
use Rattle.std.proofs.Common.{sym, subst, ap, ◌∙◌, inl, inr, ⊎_elim, append_assoc}
use Rattle.mw_logic.specs.Term.{RawTerm}
use Rattle.mw_logic.specs.Signature.{Sorted}
use Rattle.mw_logic.specs.Axioms.{EqualModulo}
use Rattle.mw_logic.specs.Substitution.{Substitution, instance, IsSubstitution, IsSolution, SameSolution}
use Rattle.mw_logic.specs.Module.{Fragment, equal, matches, has_sort, is_true, Module, IsTruth}
use Rattle.mw_logic.specs.Proof.{Proof, Proofs, nil, cons}
use Rattle.mw_logic.specs.Judgements.{StepTest, Judgements, Evaluates, MeetsSort, HoldsAbove, FailsAbove, judgements_with}
use Rattle.mw_logic.proofs.SameConditions.{Fails-same}
use Rattle.mw_deduction.specs.Frontier.{Alternative, alternative, together, IsOneOr, IsSolvedOr, IsFrontier}

together-assoc : (ps qs rs : Proofs) → together (together ps qs) rs ≡ together ps (together qs rs)
together-assoc nil qs rs = refl
together-assoc (cons p ps) qs rs = ap (cons p) (together-assoc ps qs rs)

together-nil : (ps : Proofs) → together ps nil ≡ ps
together-nil nil = refl
together-nil (cons p ps) = ap (cons p) (together-nil ps)

module _ (M : Module) (below : Judgements) where
  -- what holds in turn holds together
  pub holds-append : (C D : List Fragment) (s : Substitution) (es : Proofs) (r : Substitution) (fs : Proofs) (q : Substitution) → HoldsAbove M below C s es r → HoldsAbove M below D r fs q → HoldsAbove M below (C ++ D) s (together es fs) q
  holds-append [] D s es r fs q (e, d) h = rw e (subst (λ r. HoldsAbove M below D r fs q) (sym d) h)
  holds-append (equal u v ∷ C) D s es r fs q (p, p', rest, a, b, e, x, y, m, k) h = rw e (p, p', together rest fs, a, b, refl, x, y, m, holds-append C D s rest r fs q k h)
  holds-append (is_true b ∷ C) D s es r fs q (p, rest, a, e, x, m, k) h = rw e (p, together rest fs, a, refl, x, m, holds-append C D s rest r fs q k h)
  holds-append (has_sort t S ∷ C) D s es r fs q (p, rest, a, e, x, m, k) h = rw e (p, together rest fs, a, refl, x, m, holds-append C D s rest r fs q k h)
  holds-append (matches l t ∷ C) D s es r fs q (p, rest, a, s', e, x, m, k) h = rw e (p, together rest fs, a, s', refl, x, m, holds-append C D s' rest r fs q k h)

  module _ (C : List Fragment) (s : Substitution) where
    abbrev Reaches : Alternative → Type 0
    Reaches a = (held : List Fragment) × (C ≡ held ++ a.rest) × HoldsAbove M below held s a.evidence a.subst

    -- at the start
    pub starts : IsFrontier M below C s (IsOneOr (alternative C s nil) (λ a. ⊥))
    starts = record {
      fails = λ h. h (alternative C s nil) (inl refl);
      reached = λ a m. ⊎_elim (λ e. subst Reaches (sym e) ([], refl, (refl, refl))) (λ x. absurd x) m;
    }

    -- the same alternatives
    pub same_ones : (As Bs : Alternative → Type 0) → IsFrontier M below C s As → ((a : Alternative) → As a → Bs a) → ((a : Alternative) → Bs a → As a) → IsFrontier M below C s Bs
    same_ones As Bs h to back = record { fails = λ k. h.fails (λ a m. k a (to a m)); reached = λ a m. h.reached a (back a m) }

    -- The alternative at hand is exchanged for others, which lie behind one more fragment; where these fail it fails.
    pub exchanged : (f : Fragment) (D : List Fragment) (r : Substitution) (es : Proofs) (As Bs : Alternative → Type 0) → IsFrontier M below C s (IsOneOr (alternative (f ∷ D) r es) As)
        → (((b : Alternative) → Bs b → FailsAbove M below b.rest b.subst) → FailsAbove M below (f ∷ D) r)
        → ((b : Alternative) → Bs b → (fs : Proofs) × (b.rest ≡ D) × (b.evidence ≡ together es fs) × HoldsAbove M below (f ∷ []) r fs b.subst)
        → IsFrontier M below C s (λ b. Bs b ⊎ As b)
    exchanged f D r es As Bs h fails lies = record {
      fails = λ k. h.fails (λ a m. ⊎_elim (λ e. subst (λ a. FailsAbove M below a.rest a.subst) (sym e) (fails (λ b n. k b (inl n)))) (λ n. k a (inr n)) m);
      reached = λ a m. ⊎_elim (behind a) (λ n. h.reached a (inr n)) m;
    }
      where
        behind : (b : Alternative) → Bs b → Reaches b
        behind b m =
            let (held, e, k) = h.reached (alternative (f ∷ D) r es) (inl refl) in
            let (fs, d, z, l) = lies b m in
            (held ++ f ∷ [], e ∙ sym (append_assoc held (f ∷ []) D) ∙ ap (λ X. (held ++ f ∷ []) ++ X) (sym d), subst (λ y. HoldsAbove M below (held ++ f ∷ []) s y b.subst) (sym z) (holds-append held (f ∷ []) s es r fs b.subst k l))

    -- the alternative at hand is left out, since it fails
    pub dropped : (f : Fragment) (D : List Fragment) (r : Substitution) (es : Proofs) (As : Alternative → Type 0) → IsFrontier M below C s (IsOneOr (alternative (f ∷ D) r es) As) → FailsAbove M below (f ∷ D) r → IsFrontier M below C s As
    dropped f D r es As h k = same_ones (λ b. ⊥ ⊎ As b) As (exchanged f D r es As (λ b. ⊥) h (λ x. k) (λ b m. absurd m)) (λ a m. ⊎_elim (λ x. absurd x) (λ n. n) m) (λ a m. inr m)

    -- it goes on behind its first fragment, which holds by these proofs without a new variable
    pub goes_on : (f : Fragment) (D : List Fragment) (r : Substitution) (es fs : Proofs) (As : Alternative → Type 0) → IsFrontier M below C s (IsOneOr (alternative (f ∷ D) r es) As)
        → HoldsAbove M below (f ∷ []) r fs r → (FailsAbove M below D r → FailsAbove M below (f ∷ D) r) → IsFrontier M below C s (IsOneOr (alternative D r (together es fs)) As)
    goes_on f D r es fs As h k l =
        let b : Alternative = alternative D r (together es fs) in
        exchanged f D r es As (λ c. c ≡ b) h (λ x. l (x b refl))
        (λ c e. subst (λ c. (gs : Proofs) × (c.rest ≡ D) × (c.evidence ≡ together es gs) × HoldsAbove M below (f ∷ []) r gs c.subst) (sym e) (fs, refl, refl, k))

    -- where the whole condition is behind an alternative it holds
    pub holds : (r : Substitution) (es : Proofs) (As : Alternative → Type 0) → IsFrontier M below C s (IsOneOr (alternative [] r es) As) → HoldsAbove M below C s es r
    holds r es As h = let (held, e, k) = h.reached (alternative [] r es) (inl refl) in subst (λ X. HoldsAbove M below X s es r) (sym (e ∙ append_nil held)) k
      where
        append_nil : (X : List Fragment) → X ++ [] ≡ X
        append_nil [] = refl
        append_nil (x ∷ X) = ap (λ Y. x ∷ Y) (append_nil X)

    -- where no alternative is left it fails
    pub fails : (As : Alternative → Type 0) → ((a : Alternative) → As a → ⊥) → IsFrontier M below C s As → FailsAbove M below C s
    fails As none h = h.fails (λ a m. absurd (none a m))

    -- the fragments one by one
    module _ (D : List Fragment) (r : Substitution) (es : Proofs) (As : Alternative → Type 0) where
      abbrev Before : Fragment → Type 0
      Before f = IsFrontier M below C s (IsOneOr (alternative (f ∷ D) r es) As)

      abbrev Behind : Proofs → Type 0
      Behind fs = IsFrontier M below C s (IsOneOr (alternative D r (together es fs)) As)

      pub equal_holds : (u v : RawTerm) (p q : Proof) (a b : RawTerm) → Before (equal u v) → Evaluates below (instance r u) p a → Evaluates below (instance r v) q b → EqualModulo M.signature a b → Behind (cons p (cons q nil))
      equal_holds u v p q a b h x y m = goes_on (equal u v) D r es (cons p (cons q nil)) As h (p, q, nil, a, b, refl, x, y, m, (refl, refl)) (λ k. (p, q, a, b, x, y, inr k))

      pub equal_fails : (u v : RawTerm) (p q : Proof) (a b : RawTerm) → Before (equal u v) → Evaluates below (instance r u) p a → Evaluates below (instance r v) q b → ¬ EqualModulo M.signature a b → IsFrontier M below C s As
      equal_fails u v p q a b h x y m = dropped (equal u v) D r es As h (p, q, a, b, x, y, inl m)

      pub true_holds : (t : RawTerm) (p : Proof) (a : RawTerm) → Before (is_true t) → Evaluates below (instance r t) p a → IsTruth M.signature true a → Behind (cons p nil)
      true_holds t p a h x m = goes_on (is_true t) D r es (cons p nil) As h (p, nil, a, refl, x, m, (refl, refl)) (λ k. (p, a, x, inr k))

      pub true_fails : (t : RawTerm) (p : Proof) (a : RawTerm) → Before (is_true t) → Evaluates below (instance r t) p a → ((t : RawTerm) → IsTruth M.signature true t → ¬ EqualModulo M.signature a t) → IsFrontier M below C s As
      true_fails t p a h x m = dropped (is_true t) D r es As h (p, a, x, inl m)

      pub sort_holds : (t : RawTerm) (S : Sorted) (p : Proof) (a : RawTerm) → Before (has_sort t S) → Evaluates below (instance r t) p a → MeetsSort M.signature a S → Behind (cons p nil)
      sort_holds t S p a h x m = goes_on (has_sort t S) D r es (cons p nil) As h (p, nil, a, refl, x, m, (refl, refl)) (λ k. (p, a, x, inr k))

      pub sort_fails : (t : RawTerm) (S : Sorted) (p : Proof) (a : RawTerm) → Before (has_sort t S) → Evaluates below (instance r t) p a → ¬ MeetsSort M.signature a S → IsFrontier M below C s As
      sort_fails t S p a h x m = dropped (has_sort t S) D r es As h (p, a, x, inl m)

      -- A match: each solution is one of these, modulo the axioms. What fails for a substitution fails for a same one.
      pub match_opens : (same : (q r : Substitution) → SameSolution M.signature q r → IsSubstitution M.signature q → FailsAbove M below D q → FailsAbove M below D r)
          → (l t : RawTerm) (p : Proof) (a : RawTerm) (Solves : Substitution → Type 0) → Before (matches l t)
          → Evaluates below (instance r t) p a
          → ((q : Substitution) → Solves q → IsSolution M.signature l a r q)
          → ((q : Substitution) → IsSolution M.signature l a r q → (x : Substitution) × Solves x × SameSolution M.signature x q)
          → IsFrontier M below C s (IsSolvedOr D (together es (cons p nil)) Solves As)
      match_opens same l t p a Solves h x sound complete = exchanged (matches l t) D r es As (λ b. (q : Substitution) × Solves q × (b ≡ alternative D q (together es (cons p nil)))) h
          (λ k. (p, a, x, λ q sol. let (z, m, e) = complete q sol in same z q e (sound z m).substitution (k (alternative D z (together es (cons p nil))) (z, m, refl))))
          (λ b m.
          let (q, i, e) = m in
          subst (λ b. (fs : Proofs) × (b.rest ≡ D) × (b.evidence ≡ together es fs) × HoldsAbove M below (matches l t ∷ []) r fs b.subst) (sym e) (cons p nil, refl, refl, (p, nil, a, q, refl, x, sound q i, (refl, refl))))

-- at a rank above 0
pub Held_found : (M : Module) (Step : StepTest) (n : ℕ) (C : List Fragment) (s r : Substitution) (es : Proofs) (As : Alternative → Type 0)
    → IsFrontier M (judgements_with M Step n) C s (IsOneOr (alternative [] r es) As) → (judgements_with M Step (suc n)).Held C s es r
unfolding judgements_with
Held_found M Step n C s r es As h = holds M (judgements_with M Step n) C s r es As h

pub Fails_found : (M : Module) (Step : StepTest) (n : ℕ) (C : List Fragment) (s : Substitution) (As : Alternative → Type 0) → ((a : Alternative) → As a → ⊥)
    → IsFrontier M (judgements_with M Step n) C s As → (judgements_with M Step (suc n)).Fails C s
unfolding judgements_with
Fails_found M Step n C s As none h = fails M (judgements_with M Step n) C s As none h

pub same_fails : (M : Module) (Step : StepTest) (n : ℕ) (D : List Fragment) (q r : Substitution) → SameSolution M.signature q r → IsSubstitution M.signature q → FailsAbove M (judgements_with M Step n) D q → FailsAbove M (judgements_with M Step n) D r
unfolding judgements_with
same_fails M Step n D q r e i f = Fails-same M Step (suc n) D q r e i f

-- what stands before an alternative holds
pub Held_before : (M : Module) (Step : StepTest) (n : ℕ) (held : List Fragment) (s : Substitution) (es : Proofs) (r : Substitution) → HoldsAbove M (judgements_with M Step n) held s es r → (judgements_with M Step (suc n)).Held held s es r
unfolding judgements_with
Held_before M Step n held s es r h = h
