-- Which values are one element, by their sorts.
use Rattle.std.specs.Prelude.{◌≡◌, ◌⊎◌, ℕ, zero, suc, List, [], ◌∷◌, ◌++◌, length, Bool, true, false, not, ◌||◌, nat_eq, Option, Some, None, slice_get, IsTrue, option_map, refl}
use Rattle.std.proofs.Common.{sym, ap, subst, ◌∙◌, inl, inr, ⊎_elim}
use Rattle.std.proofs.lemmas.Bool.{and_from, eqb-true}
use Rattle.std.proofs.lemmas.Option.{same_Some, none-some}
use Rattle.mw_logic.specs.Term.{RawTerm, numeral, quoted, variable, apply, RawTerms, nil, cons, is_ground}
use Rattle.mw_logic.specs.Signature.{Signature, Identity, constant_of, numeral_of, identity_term, sort, IsRawTerm}
use Rattle.mw_logic.specs.Accepted.{IsAccepted}
use Rattle.mw_logic.specs.Sorts.{HasSort}
use Rattle.mw_logic.specs.Parts.{nested}
use Rattle.mw_logic.specs.NormalForm.{identity_of, is_identity, normal_form}
use Rattle.mw_logic.proofs.Canonical.{named}
use Rattle.mw_logic.proofs.CanonicalTerms.{fixed}
use Rattle.mw_matching.specs.Found.{stands, is_among, operators_at}
use Rattle.mw_solving.specs.Values.{AreSure}
use Rattle.mw_compile.specs.Singles.{IsJoining, IsOne}
use Rattle.mw_compile.specs.declared.singles.Joining.{Joining}

-- a canonical raw term with the sort
pub record IsSorted (sig : Signature) (S : ℕ) (u : RawTerm) : Type 0 where
  pub canonical : normal_form sig (nested sig u) ≡ u
  pub raw : IsRawTerm sig (nested sig u)
  pub sorted : HasSort sig (nested sig u) (sort S)

module _ (sig : Signature) (f S : ℕ) where
  not_stands : ((ts : RawTerms) → IsSorted sig S (apply f ts) → ⊥) → (u : RawTerm) → IsSorted sig S u → not (stands f u) ≡ true
  not_stands top (numeral n) h = refl
  not_stands top (quoted q) h = refl
  not_stands top (variable x) h = refl
  not_stands top (apply g nil) h = refl
  not_stands top (apply g (cons t ts)) h = by_test (nat_eq f g) refl
    where
      by_test : (b : Bool) → nat_eq f g ≡ b → not b ≡ true
      by_test false e = refl
      by_test true e = absurd (top (cons t ts) (subst (λ k. IsSorted sig S (apply k (cons t ts))) (sym (eqb-true f g e)) h))

  not_identity : ((i : Identity) → identity_of sig f ≡ Some i → IsSorted sig S (identity_term i) → ⊥) → (u : RawTerm) → IsSorted sig S u → not (is_identity (identity_of sig f) u) ≡ true
  not_identity unit u h = by_option (identity_of sig f) refl
    where
      by_test : (i : Identity) → identity_of sig f ≡ Some i → (b : Bool) → is_identity (Some i) u ≡ b → not b ≡ true
      by_test i d false e = refl
      by_test i d true e = absurd (unit i d (subst (IsSorted sig S) (named (Some i) f u e) h))

      by_option : (e : Option Identity) → identity_of sig f ≡ e → not (is_identity e u) ≡ true
      by_option None d = refl
      by_option (Some i) d = by_test i d (is_identity (Some i) u) refl

  -- the operator stands on top of none of them, and none is its identity
  pub one_by : IsAccepted sig → ((ts : RawTerms) → IsSorted sig S (apply f ts) → ⊥) → ((i : Identity) → identity_of sig f ≡ Some i → IsSorted sig S (identity_term i) → ⊥) → IsOne sig f S
  one_by ok top unit u v h =
      let k : IsSorted sig S u = record { canonical = fixed sig ok u v.canonical; raw = v.raw; sorted = h } in
      and_from _ _ (not_identity unit u k) (not_stands top u k)

  -- no identity
  pub none_has : (j : Joining) → j.operator ≡ f → IsJoining sig j → j.identity ≡ None → (i : Identity) → identity_of sig f ≡ Some i → ⊥
  none_has j o h n i d = none-some (identity_term i) (sym n ∙ h ∙ ap (λ g. option_map identity_term (identity_of sig g)) o ∙ ap (option_map identity_term) d)

  -- the identity is what is kept
  pub kept_is : (j : Joining) (t : RawTerm) → j.operator ≡ f → IsJoining sig j → j.identity ≡ Some t → (i : Identity) → identity_of sig f ≡ Some i → identity_term i ≡ t
  kept_is j t o h n i d = sym (same_Some t (identity_term i) (sym n ∙ h ∙ ap (λ g. option_map identity_term (identity_of sig g)) o ∙ ap (option_map identity_term) d))

pub identity_ground : (i : Identity) → IsTrue (is_ground (identity_term i))
identity_ground (constant_of c) = refl
identity_ground (numeral_of n) = refl

-- one operator more
pub among_push : (f : ℕ) (gs : List ℕ) (g : ℕ) → is_among f (gs ++ g ∷ []) ≡ true → (is_among f gs ≡ true) ⊎ (f ≡ g)
among_push f [] g h = by_test (nat_eq f g) refl h
  where
    by_test : (b : Bool) → nat_eq f g ≡ b → (b || false) ≡ true → (false ≡ true) ⊎ (f ≡ g)
    by_test true e k = inr (eqb-true f g e)
    by_test false e k = inl k
among_push f (x ∷ gs) g h = by_test (nat_eq f x) (among_push f gs g) h
  where
    by_test : (b : Bool) → (is_among f (gs ++ g ∷ []) ≡ true → (is_among f gs ≡ true) ⊎ (f ≡ g)) → (b || is_among f (gs ++ g ∷ [])) ≡ true → ((b || is_among f gs) ≡ true) ⊎ (f ≡ g)
    by_test true r k = inl refl
    by_test false r k = r k

pub ones_push : (sig : Signature) (S : ℕ) (gs : List ℕ) (g : ℕ) → IsOne sig g S → ((f : ℕ) → is_among f gs ≡ true → IsOne sig f S) → (f : ℕ) → is_among f (gs ++ g ∷ []) ≡ true → IsOne sig f S
ones_push sig S gs g one old f m = ⊎_elim (λ k. old f k) (λ e. subst (λ h. IsOne sig h S) (sym e) one) (among_push f gs g m)

-- one list more
list_push : (ls : List (List ℕ)) (l : List ℕ) (i : ℕ) → (operators_at (ls ++ l ∷ []) i ≡ operators_at ls i) ⊎ ((i ≡ length ls) × (operators_at (ls ++ l ∷ []) i ≡ l))
list_push [] l zero = inr (refl, refl)
list_push [] l (suc i) = inl refl
list_push (x ∷ ls) l zero = inl refl
list_push (x ∷ ls) l (suc i) = ⊎_elim (λ h. inl h) (λ p. inr (ap suc p.0, p.1)) (list_push ls l i)

pub sure_push : (sig : Signature) (ls : List (List ℕ)) (l : List ℕ) (Ss : List ℕ) (S : ℕ) → slice_get Ss (length ls) ≡ Some S → ((f : ℕ) → is_among f l ≡ true → IsOne sig f S) → AreSure sig ls Ss → AreSure sig (ls ++ l ∷ []) Ss
sure_push sig ls l Ss S at one old i f T u m e v h =
    ⊎_elim
    (λ k. old i f T u (ap (is_among f) (sym k) ∙ m) e v h)
    (λ p.
    let same : T ≡ S = same_Some T S (sym e ∙ ap (slice_get Ss) p.0 ∙ at) in
    one f (ap (is_among f) (sym p.1) ∙ m) u v (subst (λ R. HasSort sig (nested sig u) (sort R)) same h))
    (list_push ls l i)
