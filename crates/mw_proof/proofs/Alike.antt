-- An operator that is open round terms, and the same operator round these terms in another order, where it is commutative.
use Rattle.std.specs.Prelude.{◌≡◌, ◌⊎◌, ℕ, suc, [], ◌∷◌, ◌++◌, Bool, true, false, ◌||◌, IsTrue, refl}
use Rattle.std.proofs.Common.{inl, inr, sym, subst, ap, ◌∙◌, ⊎_elim, append-nil}
use Rattle.mw_logic.specs.Term.{RawTerm, apply, RawTerms, nil, cons, join, binary, Context, plug}
use Rattle.mw_logic.specs.Signature.{Signature, Operator, IsOperator, IsAssociative, IsCommutative}
use Rattle.mw_logic.specs.Axioms.{assoc, comm, forward, backward, inside, here, EqualModulo, done, then}
use Rattle.mw_logic.specs.Accepted.{IsAccepted}
use Rattle.mw_logic.specs.Parts.{is_assoc, nested, all_nested, nest, chain, number_of_terms, IsAdmitted, IsFrozenArgument, IsFrozen}
use Rattle.mw_logic.specs.TermOrder.{sorted_terms}
use Rattle.mw_logic.specs.Module.{Module}
use Rattle.mw_logic.specs.NormalForm.{is_comm}
use Rattle.mw_logic.specs.CanonicalPart.{AreSeveral}
use Rattle.mw_logic.proofs.AxiomLaws.{trans, sym as back}
use Rattle.mw_logic.proofs.Canonical.{assoc_operator}
use Rattle.mw_logic.proofs.EqualTerms.{IsAdmitted-equal}
use Rattle.mw_logic.proofs.Soundness.{IsLong, equal, second, all_nested-join, arranged_nest, is_commutative, several-arranged, long-arranged}
use Rattle.mw_redex.proofs.Standing.{placed_anywhere}
use Rattle.mw_deduction.specs.Places.{frame, context_of}
use Rattle.mw_deduction.specs.Standing.{Open, filled, context_at, round}
use Rattle.mw_deduction.specs.Replay.{opened}
use Rattle.mw_deduction.specs.Runs.{Done, by_statement, by_row, Dones, none, more}
use Rattle.mw_deduction.specs.Under.{under_term, under_done, under_dones, IsFitUnder, MayBeUnder, AllMayBeUnder}
use Rattle.mw_deduction.proofs.PlaceLaws.{context_of-plug}

-- one term in order is that term
pub sorted_one : (ts : RawTerms) (t : RawTerm) → sorted_terms ts ≡ cons t nil → ts ≡ cons t nil
sorted_one nil t e = cc
sorted_one (cons u nil) t e = e
sorted_one (cons u (cons v vs)) t e = absurd (subst AreSeveral e (several-arranged true (cons u (cons v vs)) tt))

pub one_of_two : (b a : RawTerms) (y : RawTerm) → join b a ≡ cons y nil → ((b ≡ nil) × (a ≡ cons y nil)) ⊎ ((b ≡ cons y nil) × (a ≡ nil))
one_of_two nil a y e = inl (refl, e)
one_of_two (cons x nil) nil y e = inr (e, refl)
one_of_two (cons x nil) (cons z zs) y e = cc
one_of_two (cons x (cons z zs)) a y e = cc

-- The terms of c and d are those of b and a, one by one where f isn't commutative. A commutative f that isn't associative has one beside the hole, an
-- associative f has one at least.
pub record AreAlike (sig : Signature) (f : ℕ) (b a c d : RawTerms) : Type 0 where
  pub listed : is_comm sig f ≡ false → (c ≡ b) × (d ≡ a)
  pub sorted : is_comm sig f ≡ true → sorted_terms (join c d) ≡ sorted_terms (join b a)
  pub one : is_assoc sig f ≡ false → is_comm sig f ≡ true → (y : RawTerm) × (join c d ≡ cons y nil)
  pub some : is_assoc sig f ≡ true → IsLong (join b a)

module _ (sig : Signature) (ok : IsAccepted sig) (f : ℕ) (b a c d : RawTerms) (alike : AreAlike sig f b a c d) where
  -- the operator is the same on a term and them
  pub filled-alike : (x : RawTerm) → filled sig (opened f c d) x ≡ filled sig (opened f b a) x
  filled-alike x = by_comm (is_comm sig f) refl
    where
      by_comm : (m : Bool) → is_comm sig f ≡ m → filled sig (opened f c d) x ≡ filled sig (opened f b a) x
      by_comm false h = let (p, q) = alike.listed h in ap (λ z. filled sig (opened f z d) x) p ∙ ap (λ z. filled sig (opened f b z) x) q
      by_comm true h = placed_anywhere sig ok f h x c d b a (alike.sorted h)

  under_term-alike : (t : RawTerm) → under_term sig (opened f c d ∷ []) t ≡ under_term sig (opened f b a ∷ []) t
  under_term-alike t = ap (nested sig) (filled-alike (Rattle.mw_logic.specs.NormalForm.normal_form sig t))

  under_done-alike : (e : Done) → under_done sig (opened f c d ∷ []) e ≡ under_done sig (opened f b a ∷ []) e
  under_done-alike (by_statement k s rs t u) = ap (λ x. by_statement k s rs x (under_term sig (opened f c d ∷ []) u)) (under_term-alike t) ∙ ap (by_statement k s rs (under_term sig (opened f b a ∷ []) t)) (under_term-alike u)
  under_done-alike (by_row t u) = ap (λ x. by_row x (under_term sig (opened f c d ∷ []) u)) (under_term-alike t) ∙ ap (by_row (under_term sig (opened f b a ∷ []) t)) (under_term-alike u)

  -- so is a run under it
  pub under_dones-alike : (ds : Dones) → under_dones sig (opened f c d ∷ []) ds ≡ under_dones sig (opened f b a ∷ []) ds
  under_dones-alike none = refl
  under_dones-alike (more e es) = ap (λ x. more x (under_dones sig (opened f c d ∷ []) es)) (under_done-alike e) ∙ ap (more (under_done sig (opened f b a ∷ []) e)) (under_dones-alike es)

  -- the hole's term comes to the front
  swapped : IsAssociative sig f → IsCommutative sig f → (x y : RawTerm) (zs : RawTerms) → EqualModulo sig (chain f x (cons y zs)) (chain f y (cons x zs))
  swapped A C x y nil = then (forward (comm C)) done
  swapped A C x y (cons z zs) = then (backward (assoc A)) (then (inside (here (forward (comm C)))) (then (forward (assoc A)) done))

  to_front : IsAssociative sig f → IsCommutative sig f → (bs : RawTerms) (u : RawTerm) (es : RawTerms) → EqualModulo sig (nest true f (join bs (cons u es))) (chain f u (join bs es))
  to_front A C nil u es = done
  to_front A C (cons x nil) u es = swapped A C x u es
  to_front A C (cons x (cons y ys)) u es = trans (second f x (to_front A C (cons y ys) u es)) (swapped A C x u (join (cons y ys) es))

  front_nest : (u : RawTerm) (zs : RawTerms) → IsLong zs → chain f u (all_nested sig zs) ≡ binary f u (nest true f (all_nested sig zs))
  front_nest u nil l = elim l [ ]
  front_nest u (cons z zs) l = refl

  in_front_of_sorted : IsAssociative sig f → IsCommutative sig f → (bs es : RawTerms) (u : RawTerm) → IsLong (join bs es)
      → EqualModulo sig (plug (context_of true f (all_nested sig bs) (all_nested sig es)) u) (binary f u (nest true f (all_nested sig (sorted_terms (join bs es)))))
  in_front_of_sorted A C bs es u l =
      let first : EqualModulo sig (plug (context_of true f (all_nested sig bs) (all_nested sig es)) u) (chain f u (all_nested sig (join bs es))) =
      subst (λ x. EqualModulo sig x (chain f u (all_nested sig (join bs es)))) (context_of-plug true f (all_nested sig bs) (all_nested sig es) u)
      (subst (λ zs. EqualModulo sig (nest true f (join (all_nested sig bs) (cons u (all_nested sig es)))) (chain f u zs)) (sym (all_nested-join sig bs es)) (to_front A C (all_nested sig bs) u (all_nested sig es))) in
      trans first (trans (equal (front_nest u (join bs es) l)) (second f u (back (arranged_nest sig f A true (λ e. C) (join bs es) l))))

  pub long_alike : is_assoc sig f ≡ true → is_comm sig f ≡ true → IsLong (join c d)
  long_alike h k = long_before (join c d) (subst IsLong (sym (alike.sorted k)) (long-arranged true (join b a) (alike.some h)))
    where
      long_before : (ts : RawTerms) → IsLong (sorted_terms ts) → IsLong ts
      long_before nil l = l
      long_before (cons t ts) l = tt

  -- of two lists of one term
  swapped_pair : is_comm sig f ≡ true → (bs es cs ds : RawTerms) (u y : RawTerm) → join bs es ≡ cons y nil → join cs ds ≡ cons y nil
      → EqualModulo sig (apply f (join (all_nested sig bs) (cons u (all_nested sig es)))) (apply f (join (all_nested sig cs) (cons u (all_nested sig ds))))
  swapped_pair k bs es cs ds u y p q = ⊎_elim (λ x. ⊎_elim (λ z. both_last x z) (λ z. first_last x z) (one_of_two cs ds y q)) (λ x. ⊎_elim (λ z. last_first x z) (λ z. both_first x z) (one_of_two cs ds y q)) (one_of_two bs es y p)
    where
      C : IsCommutative sig f
      C = is_commutative sig ok f k

      both_last : (bs ≡ nil) × (es ≡ cons y nil) → (cs ≡ nil) × (ds ≡ cons y nil) → EqualModulo sig (apply f (join (all_nested sig bs) (cons u (all_nested sig es)))) (apply f (join (all_nested sig cs) (cons u (all_nested sig ds))))
      both_last (i, j) (m, n) = rw (i, j, m, n) done

      first_last : (bs ≡ nil) × (es ≡ cons y nil) → (cs ≡ cons y nil) × (ds ≡ nil) → EqualModulo sig (apply f (join (all_nested sig bs) (cons u (all_nested sig es)))) (apply f (join (all_nested sig cs) (cons u (all_nested sig ds))))
      first_last (i, j) (m, n) = rw (i, j, m, n) (then (forward (comm C)) done)

      last_first : (bs ≡ cons y nil) × (es ≡ nil) → (cs ≡ nil) × (ds ≡ cons y nil) → EqualModulo sig (apply f (join (all_nested sig bs) (cons u (all_nested sig es)))) (apply f (join (all_nested sig cs) (cons u (all_nested sig ds))))
      last_first (i, j) (m, n) = rw (i, j, m, n) (then (forward (comm C)) done)

      both_first : (bs ≡ cons y nil) × (es ≡ nil) → (cs ≡ cons y nil) × (ds ≡ nil) → EqualModulo sig (apply f (join (all_nested sig bs) (cons u (all_nested sig es)))) (apply f (join (all_nested sig cs) (cons u (all_nested sig ds))))
      both_first (i, j) (m, n) = rw (i, j, m, n) done

  one_there : is_assoc sig f ≡ false → is_comm sig f ≡ true → (y : RawTerm) × (join b a ≡ cons y nil) × (join c d ≡ cons y nil)
  one_there h k = let (y, e) = alike.one h k in (y, sorted_one (join b a) y (sym (alike.sorted k) ∙ ap sorted_terms e), e)

  -- what stands in the hole means the same with them round it
  pub round-alike : (u : RawTerm) → EqualModulo sig (plug (context_at sig (opened f b a)) u) (plug (context_at sig (opened f c d)) u)
  round-alike u = by_comm (is_comm sig f) refl
    where
      by_assoc : is_comm sig f ≡ true → (m : Bool) → is_assoc sig f ≡ m → EqualModulo sig (plug (context_of m f (all_nested sig b) (all_nested sig a)) u) (plug (context_of m f (all_nested sig c) (all_nested sig d)) u)
      by_assoc k false h = let (y, p, q) = one_there h k in swapped_pair k b a c d u y p q
      by_assoc k true h =
          let (o, is, w) = assoc_operator sig f h in
          let A : IsAssociative sig f = record { operator = o; is_there = is; assoc = w } in
          let C : IsCommutative sig f = is_commutative sig ok f k in
          trans (in_front_of_sorted A C b a u (alike.some h))
          (subst (λ zs. EqualModulo sig (binary f u (nest true f (all_nested sig zs))) (plug (context_of true f (all_nested sig c) (all_nested sig d)) u)) (alike.sorted k) (back (in_front_of_sorted A C c d u (long_alike h k))))

      by_comm : (m : Bool) → is_comm sig f ≡ m → EqualModulo sig (plug (context_at sig (opened f b a)) u) (plug (context_at sig (opened f c d)) u)
      by_comm false k = let (p, q) = alike.listed k in equal (ap (λ z. plug (context_at sig (opened f z a)) u) (sym p) ∙ ap (λ z. plug (context_at sig (opened f c z)) u) (sym q))
      by_comm true k = by_assoc k (is_assoc sig f) refl

  -- frozen arguments
  together : is_comm sig f ≡ true → (IsFrozenArgument sig f 1 → IsFrozenArgument sig f 2) × (IsFrozenArgument sig f 2 → IsFrozenArgument sig f 1)
  together k = (λ x. (x.0, x.1, (ok.frozen f x.0 x.1 (known x.0 x.1)).0 x.2), λ x. (x.0, x.1, (ok.frozen f x.0 x.1 (known x.0 x.1)).1 x.2))
    where
      of_comm : (m n : Bool) → n ≡ true → (m || n) ≡ true
      of_comm true n e = refl
      of_comm false n e = e

      known : (o : Operator) → IsOperator sig f o → IsTrue (o.assoc || o.comm)
      known o e = of_comm o.assoc o.comm (rw e at k)

  apart : (C D : Context) → IsFrozen sig (C ++ D) → IsFrozen sig C ⊎ IsFrozen sig D
  apart [] D x = inr x
  apart (e ∷ C) D (inl x) = inl (inl x)
  apart (e ∷ C) D (inr x) = ⊎_elim (λ y. inl (inr y)) inr (apart C D x)

  behind : (C D : Context) → IsFrozen sig D → IsFrozen sig (C ++ D)
  behind [] D x = x
  behind (e ∷ C) D x = inr (behind C D x)

  first_frozen : is_comm sig f ≡ true → (bs es : RawTerms) → IsFrozen sig (context_of true f bs es) → IsFrozenArgument sig f 1
  first_frozen k nil nil x = absurd x
  first_frozen k nil (cons t ts) (inl x) = x
  first_frozen k nil (cons t ts) (inr x) = absurd x
  first_frozen k (cons t ts) es x = ⊎_elim (λ y. first_frozen k ts es y) (λ y. ⊎_elim (λ z. (together k).1 z) (λ z. absurd z) y) (apart (context_of true f ts es) (frame f (cons t nil) nil ∷ []) x)

  frozen_first : is_comm sig f ≡ true → (bs es : RawTerms) → IsLong (join bs es) → IsFrozenArgument sig f 1 → IsFrozen sig (context_of true f bs es)
  frozen_first k nil nil l x = absurd l
  frozen_first k nil (cons t ts) l x = inl x
  frozen_first k (cons t ts) es l x = behind (context_of true f ts es) (frame f (cons t nil) nil ∷ []) (inl ((together k).0 x))

  pair_frozen : is_comm sig f ≡ true → (bs es : RawTerms) (y : RawTerm) → join bs es ≡ cons y nil → IsFrozenArgument sig f (suc (number_of_terms (all_nested sig bs))) → IsFrozenArgument sig f 1
  pair_frozen k bs es y e x =
      ⊎_elim (λ z. subst (λ n. IsFrozenArgument sig f (suc n)) (ap (λ ts. number_of_terms (all_nested sig ts)) z.0) x) (λ z. (together k).1 (subst (λ n. IsFrozenArgument sig f (suc n)) (ap (λ ts. number_of_terms (all_nested sig ts)) z.0) x)) (one_of_two bs es y e)

  frozen_pair : is_comm sig f ≡ true → (bs es : RawTerms) (y : RawTerm) → join bs es ≡ cons y nil → IsFrozenArgument sig f 1 → IsFrozenArgument sig f (suc (number_of_terms (all_nested sig bs)))
  frozen_pair k bs es y e x =
      ⊎_elim (λ z. subst (λ n. IsFrozenArgument sig f (suc n)) (sym (ap (λ ts. number_of_terms (all_nested sig ts)) z.0)) x) (λ z. subst (λ n. IsFrozenArgument sig f (suc n)) (sym (ap (λ ts. number_of_terms (all_nested sig ts)) z.0)) ((together k).0 x)) (one_of_two bs es y e)

  frozen-alike : IsFrozen sig (context_at sig (opened f c d)) → IsFrozen sig (context_at sig (opened f b a))
  frozen-alike = by_comm (is_comm sig f) refl
    where
      by_assoc : is_comm sig f ≡ true → (m : Bool) → is_assoc sig f ≡ m → IsFrozen sig (context_of m f (all_nested sig c) (all_nested sig d)) → IsFrozen sig (context_of m f (all_nested sig b) (all_nested sig a))
      by_assoc k false h (inl x) = let (y, p, q) = one_there h k in inl (frozen_pair k b a y p (pair_frozen k c d y q x))
      by_assoc k false h (inr x) = absurd x
      by_assoc k true h x = frozen_first k (all_nested sig b) (all_nested sig a) (nested_long (join b a) (all_nested-join sig b a) (alike.some h)) (first_frozen k (all_nested sig c) (all_nested sig d) x)
        where
          nested_long : (ts : RawTerms) {zs : RawTerms} → all_nested sig ts ≡ zs → IsLong ts → IsLong zs
          nested_long nil e l = elim l [ ]
          nested_long (cons t ts) e l = subst IsLong e tt

      by_comm : (m : Bool) → is_comm sig f ≡ m → IsFrozen sig (context_at sig (opened f c d)) → IsFrozen sig (context_at sig (opened f b a))
      by_comm false k x = let (p, q) = alike.listed k in subst (λ z. IsFrozen sig (context_at sig (opened f b z))) q (subst (λ z. IsFrozen sig (context_at sig (opened f z d))) p x)
      by_comm true k x = by_assoc k (is_assoc sig f) refl x

  in_round : (o : Open) → round sig (o ∷ []) ≡ context_at sig o
  in_round o = append-nil (context_at sig o)

  fit-alike : (t u : RawTerm) → IsFitUnder sig (opened f b a ∷ []) t u → IsFitUnder sig (opened f c d ∷ []) t u
  fit-alike t u h = record {
    seen = record { not_identity = h.seen.not_identity; not_numeral = h.seen.not_numeral };
    admitted = subst (λ C. IsAdmitted sig (plug C u)) (sym (in_round (opened f c d))) (IsAdmitted-equal sig (round-alike u) (subst (λ C. IsAdmitted sig (plug C u)) (in_round (opened f b a)) h.admitted));
  }

  free-alike : ¬ IsFrozen sig (round sig (opened f b a ∷ [])) → ¬ IsFrozen sig (round sig (opened f c d ∷ []))
  free-alike h x = h (subst (IsFrozen sig) (sym (in_round (opened f b a))) (frozen-alike (subst (IsFrozen sig) (in_round (opened f c d)) x)))

module _ (M : Module) (ok : IsAccepted M.signature) (f : ℕ) (b a c d : RawTerms) (alike : AreAlike M.signature f b a c d) where
  may_alike : (e : Done) → MayBeUnder M (opened f b a ∷ []) e → MayBeUnder M (opened f c d ∷ []) e
  may_alike (by_statement k s rs t u) h = (fit-alike M.signature ok f b a c d alike t u h.0, λ e is r. free-alike M.signature ok f b a c d alike (h.1 e is r))
  may_alike (by_row t u) h = fit-alike M.signature ok f b a c d alike t u h

  -- what may be done under it may be done there
  pub all_may_alike : (ds : Dones) → AllMayBeUnder M (opened f b a ∷ []) ds → AllMayBeUnder M (opened f c d ∷ []) ds
  all_may_alike none h = tt
  all_may_alike (more e es) h = (may_alike e h.0, all_may_alike es h.1)
