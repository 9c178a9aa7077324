-- An index with one equation more.
use Rattle.std.specs.Prelude.{◌≡◌, ◌≢◌, ◌⊎◌, ℕ, List, [], ◌∷◌, ◌++◌, Option, Some, None, refl}
use Rattle.std.proofs.Common.{sym, ap, subst, inl, inr, ⊎_elim}
use Rattle.mw_logic.specs.Signature.{Member}
use Rattle.mw_index.proofs.Listed.{same_or_not}
use Rattle.mw_logic.proofs.Members.{member-left, member-right, member-append}
use Rattle.mw_poset.proofs.Members.{member-last, member-push}
use Rattle.mw_index.specs.Index.{Asks, listed, asked}
use Rattle.mw_index.specs.Sections.{Puts}
use Rattle.mw_index.specs.declared.oriented.Oriented.{Oriented}
use Rattle.mw_index.specs.declared.index.Index.{Index}
use Rattle.mw_index.specs.declared.index.Section.{Section}
use Rattle.mw_index.specs.declared.index.Section.TheVariants.{Operator, Any, Leaves}

-- Two lists, one behind the other, where one of them has one more.
pub record IsLonger (st : Oriented) (old new : List Oriented) : Type 0 where
  pub kept : (s : Oriented) → Member s old → Member s new
  pub put : Member st new
  pub only : (s : Oriented) → Member s new → Member s old ⊎ (st ≡ s)

first_longer : (st : Oriented) (xs ys : List Oriented) → IsLonger st (xs ++ ys) ((xs ++ st ∷ []) ++ ys)
first_longer st xs ys = record {
  kept = λ s m. ⊎_elim (λ k. member-left s (xs ++ st ∷ []) ys (member-left s xs (st ∷ []) k)) (λ k. member-right s (xs ++ st ∷ []) ys k) (member-append s xs ys m);
  put = member-left st (xs ++ st ∷ []) ys (member-last st xs);
  only = λ s m. ⊎_elim
      (λ k. ⊎_elim (λ j. inl (member-left s xs ys j)) (λ e. inr e) (member-push s st xs k))
      (λ k. inl (member-right s xs ys k))
      (member-append s (xs ++ st ∷ []) ys m);
}

second_longer : (st : Oriented) (xs ys : List Oriented) → IsLonger st (xs ++ ys) (xs ++ (ys ++ st ∷ []))
second_longer st xs ys = record {
  kept = λ s m. ⊎_elim (λ k. member-left s xs (ys ++ st ∷ []) k) (λ k. member-right s xs (ys ++ st ∷ []) (member-left s ys (st ∷ []) k)) (member-append s xs ys m);
  put = member-right st xs (ys ++ st ∷ []) (member-last st ys);
  only = λ s m. ⊎_elim
      (λ k. inl (member-left s xs ys k))
      (λ k. ⊎_elim (λ j. inl (member-right s xs ys j)) (λ e. inr e) (member-push s st ys k))
      (member-append s xs (ys ++ st ∷ []) m);
}

module _ (st : Oriented) (old new : Index) (rules : new.rules.items ≡ old.rules.items) where
  -- what is asked for each operator: one more, or the same
  puts : (q : Section) → ((top : Option ℕ) → (Asks q top × IsLonger st (asked old top) (asked new top)) ⊎ ((Asks q top → ⊥) × (asked new top ≡ asked old top))) → Puts q st old new
  puts q h = record {
    kept = λ top s m. ⊎_elim (λ k. k.1.kept s m) (λ k. subst (Member s) (sym k.1) m) (h top);
    put = λ top a. ⊎_elim (λ k. k.1.put) (λ k. absurd (k.0 a)) (h top);
    only = λ top s m. ⊎_elim
        (λ k. ⊎_elim (λ j. inl j) (λ e. inr (k.0, e)) (k.1.only s m))
        (λ k. inl (subst (Member s) k.1 m))
        (h top);
    rules = rules;
  }

  none_some : (f : ℕ) → None ≡ Some f → ⊥
  none_some f h = cc

  pub puts_under : (f : ℕ) → listed new f ≡ listed old f ++ st ∷ [] → ((g : ℕ) → g ≢ f → listed new g ≡ listed old g) → new.any.items ≡ old.any.items → new.leaves.items ≡ old.leaves.items → Puts (Operator f) st old new
  puts_under f here others any leaves = puts (Operator f) each
    where
      each : (top : Option ℕ) → (Asks (Operator f) top × IsLonger st (asked old top) (asked new top)) ⊎ ((Asks (Operator f) top → ⊥) × (asked new top ≡ asked old top))
      each None = inr (none_some f, rw (any, leaves) refl)
      each (Some g) = ⊎_elim
          (λ (e : g ≡ f).
          let P : ℕ → Type 0 = λ g. IsLonger st (listed old g ++ old.any.items) (listed new g ++ new.any.items) in
          let Q : List Oriented → List Oriented → Type 0 = λ xs ys. IsLonger st (listed old f ++ old.any.items) (xs ++ ys) in
          let k : P f = subst (λ ys. Q (listed new f) ys) (sym any) (subst (λ xs. Q xs old.any.items) (sym here) (first_longer st (listed old f) old.any.items)) in
          inl (ap Some e, subst P (sym e) k))
          (λ (n : g ≢ f). inr ((λ e. n (some_same g f e)), rw (others g n, any) refl))
          (same_or_not g f)
        where
          some_same : (g f : ℕ) → Some g ≡ Some f → g ≡ f
          some_same g f e = cc

  pub puts_any : ((g : ℕ) → listed new g ≡ listed old g) → new.any.items ≡ old.any.items ++ st ∷ [] → new.leaves.items ≡ old.leaves.items → Puts Any st old new
  puts_any top any leaves = puts Any each
    where
      each : (top : Option ℕ) → (Asks Any top × IsLonger st (asked old top) (asked new top)) ⊎ ((Asks Any top → ⊥) × (asked new top ≡ asked old top))
      each None =
          let Q : List Oriented → List Oriented → Type 0 = λ xs ys. IsLonger st (old.any.items ++ old.leaves.items) (xs ++ ys) in
          inl (tt, subst (λ ys. Q new.any.items ys) (sym leaves) (subst (λ xs. Q xs old.leaves.items) (sym any) (first_longer st old.any.items old.leaves.items)))
      each (Some g) =
          let Q : List Oriented → List Oriented → Type 0 = λ xs ys. IsLonger st (listed old g ++ old.any.items) (xs ++ ys) in
          inl (tt, subst (λ ys. Q (listed new g) ys) (sym any) (subst (λ xs. Q xs (old.any.items ++ st ∷ [])) (sym (top g)) (second_longer st (listed old g) old.any.items)))

  pub puts_leaves : ((g : ℕ) → listed new g ≡ listed old g) → new.any.items ≡ old.any.items → new.leaves.items ≡ old.leaves.items ++ st ∷ [] → Puts Leaves st old new
  puts_leaves top any leaves = puts Leaves each
    where
      each : (top : Option ℕ) → (Asks Leaves top × IsLonger st (asked old top) (asked new top)) ⊎ ((Asks Leaves top → ⊥) × (asked new top ≡ asked old top))
      each None =
          let Q : List Oriented → List Oriented → Type 0 = λ xs ys. IsLonger st (old.any.items ++ old.leaves.items) (xs ++ ys) in
          inl (refl, subst (λ ys. Q new.any.items ys) (sym leaves) (subst (λ xs. Q xs (old.leaves.items ++ st ∷ [])) (sym any) (second_longer st old.any.items old.leaves.items)))
      each (Some g) = inr ((λ e. none_some g (sym e)), rw (top g, any) refl)
