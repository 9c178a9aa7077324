-- Frozen arguments: of an associative or commutative operator both are frozen or none, so a place among its arguments is open where another is.
use Rattle.std.specs.Prelude.{◌≡◌, ◌↔◌, ◌⊎◌, ℕ, suc, [], ◌∷◌, ◌++◌, Bool, true, false, ◌||◌, refl, IsTrue}
use Rattle.std.proofs.Common.{inl, inr, subst, ⊎_elim}
use Rattle.mw_logic.specs.Term.{RawTerm, apply, RawTerms, nil, cons, join, Frame, Context}
use Rattle.mw_logic.specs.Signature.{Signature, Operator, IsOperator, IsRawTerm, an_operator, AreRawTerms, end, next}
use Rattle.mw_logic.specs.Accepted.{IsAccepted}
use Rattle.mw_logic.specs.Parts.{is_assoc, number_of_terms, IsFrozenArgument, IsFrozen}
use Rattle.mw_logic.specs.NormalForm.{is_comm}
use Rattle.mw_logic.specs.CanonicalPart.{IsOpen}
use Rattle.std.proofs.lemmas.Bool.{or_cases}

module _ (sig : Signature) (r : Bool) where
  -- an argument number of f is open: a rule may replace there
  abbrev pub IsUnfrozen : ℕ → ℕ → Type 0
  IsUnfrozen f i = IsTrue r → ¬ IsFrozenArgument sig f i

  -- a context's hole stands in no frozen argument
  abbrev pub IsOpenContext : Context → Type 0
  IsOpenContext C = IsTrue r → ¬ IsFrozen sig C

  pub open_append : (C D : Context) → IsOpenContext C → IsOpenContext D → IsOpenContext (C ++ D)
  open_append [] D p q = q
  open_append (c ∷ C) D p q = λ t. ⊎_elim (λ x. p t (inl x)) (open_append C D (λ t x. p t (inr x)) q t)

  pub open_hole : IsOpenContext []
  open_hole = λ t x. x

  pub open_frame : (c : Frame) → IsUnfrozen c.operator (suc (number_of_terms c.before)) → IsOpenContext (c ∷ [])
  open_frame c p = λ t. ⊎_elim (λ x. p t x) (λ x. x)

  -- the innermost frame, and the others
  pub open_first : (c : Frame) (C : Context) → IsOpenContext (c ∷ C) → IsUnfrozen c.operator (suc (number_of_terms c.before))
  open_first c C p = λ t x. p t (inl x)

  pub open_rest : (c : Frame) (C : Context) → IsOpenContext (c ∷ C) → IsOpenContext C
  open_rest c C p = λ t x. p t (inr x)

  -- where all arguments are frozen together, one place is as good as another
  pub open_anywhere : (f i j : ℕ) → (is_assoc sig f || is_comm sig f) ≡ true → IsOpen sig r f i → IsOpen sig r f j
  open_anywhere f i j h p = rw h (rw h at p)

module _ (sig : Signature) (ok : IsAccepted sig) where
  together : (f : ℕ) → (is_assoc sig f || is_comm sig f) ≡ true → (IsFrozenArgument sig f 1 → IsFrozenArgument sig f 2) × (IsFrozenArgument sig f 2 → IsFrozenArgument sig f 1)
  together f h = (λ x. (x.0, x.1, (ok.frozen f x.0 x.1 (known x.0 x.1)).0 x.2), λ x. (x.0, x.1, (ok.frozen f x.0 x.1 (known x.0 x.1)).1 x.2))
    where
      known : (o : Operator) → IsOperator sig f o → IsTrue (o.assoc || o.comm)
      known o e = rw e at h

  -- such an operator has two arguments
  two_arguments : (f : ℕ) (ts : RawTerms) → (is_assoc sig f || is_comm sig f) ≡ true → IsRawTerm sig (apply f ts) → (x y : RawTerm) × (ts ≡ cons x (cons y nil))
  two_arguments f ts h (an_operator o e args) = by_axiom (or_cases _ _ (rw e at h))
    where
      by_shape : {K L : ℕ} {ts : RawTerms} → AreRawTerms sig ts (K ∷ L ∷ []) → (x y : RawTerm) × (ts ≡ cons x (cons y nil))
      by_shape (next {t = x} r k (next {t = y} s l end)) = (x, y, refl)

      by_axiom : (o.assoc ≡ true) ⊎ (o.comm ≡ true) → (x y : RawTerm) × (ts ≡ cons x (cons y nil))
      by_axiom (inl a) = let (K, L, k, p, q) = ok.assoc f o e a in by_shape (subst (λ Ks. AreRawTerms sig ts Ks) k args)
      by_axiom (inr c) = let (K, L, k, p) = ok.comm f o e c in by_shape (subst (λ Ks. AreRawTerms sig ts Ks) k args)

  module _ (r : Bool) where
    of_pair : (f : ℕ) → (is_assoc sig f || is_comm sig f) ≡ true → (b : RawTerms) (w : RawTerm) (a : RawTerms) (x y : RawTerm) → join b (cons w a) ≡ cons x (cons y nil) →
        (IsUnfrozen sig r f (suc (number_of_terms b)) → IsUnfrozen sig r f 1) × (IsUnfrozen sig r f 1 → IsUnfrozen sig r f (suc (number_of_terms b)))
    of_pair f h nil w a x y e = (λ p. p, λ p. p)
    of_pair f h (cons b nil) w a x y e = (λ p t k. p t ((together f h).0 k), λ p t k. p t ((together f h).1 k))
    of_pair f h (cons b (cons c nil)) w a x y e = cc
    of_pair f h (cons b (cons c (cons d bs))) w a x y e = cc

    -- in a raw term an argument is open where its number isn't frozen
    pub open-iff : (f : ℕ) (b : RawTerms) (w : RawTerm) (a : RawTerms) → IsRawTerm sig (apply f (join b (cons w a))) →
        (IsUnfrozen sig r f (suc (number_of_terms b)) ↔ IsOpen sig r f (suc (number_of_terms b)))
    open-iff f b w a raw = by_test (is_assoc sig f || is_comm sig f) refl
      where
        by_test : (m : Bool) → (is_assoc sig f || is_comm sig f) ≡ m → (IsUnfrozen sig r f (suc (number_of_terms b)) ↔ IsOpen sig r f (suc (number_of_terms b)))
        by_test false h = rw h (λ p. p, λ p. p)
        by_test true h = let (x, y, e) = two_arguments f (join b (cons w a)) h raw in rw h (of_pair f h b w a x y e)

    -- of an associative operator both arguments are open, or none
    pub both_open : (f i : ℕ) → is_assoc sig f ≡ true → IsOpen sig r f i → IsUnfrozen sig r f 1 × IsUnfrozen sig r f 2
    both_open f i h p = let k : (is_assoc sig f || is_comm sig f) ≡ true = rw h refl in let q : IsUnfrozen sig r f 1 = rw k at p in (q, λ t x. q t ((together f k).1 x))
