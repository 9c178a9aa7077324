-- Look-ups in tables that grow.
use Rattle.std.proofs.Common.{◌≡◌, ◌∙◌, ◌+◌, ◌≤◌, ◌⊎◌, inl, inr, ℕ, List, [], ◌∷◌, Bool, true, false, cond, if◌then◌else◌, Option, Some, None, refl, sym, ap, subst, arith}
use Rattle.std.specs.Map.{lookup}
use Rattle.indexmap.specs.IndexMap.{insert_entry}
use Rattle.mw_carry.specs.Tables.{IsFound}

-- keys that are equal where what is seen of them is
module _ {K X N : Type 0} (see : K → N) (same : N → N → Bool) (equal : (n : N) → same n n ≡ true) (exact : (m n : N) → same m n ≡ true → m ≡ n)
    (eq : K → K → Bool) (alike : (p q : K) → eq p q ≡ same (see p) (see q)) (n : N) where
  abbrev pub looked_up : List (K × X) → Option X
  looked_up es = lookup (λ k. same n (see k)) es

  -- what was put in is found, and all else as before
  pub lookup_inserted : (es : List (K × X)) (k : K) (x : X) → looked_up (insert_entry eq es k x) ≡ cond (same n (see k)) (Some x) (looked_up es)
  lookup_inserted [] k x = refl
  lookup_inserted (e ∷ es) k x = of (eq k e.0) (sym (alike k e.0)) (lookup_inserted es k x)
    where
      twice : (t : Bool) → cond t (Some x) (looked_up es) ≡ cond t (Some x) (cond t (Some e.1) (looked_up es))
      twice true = refl
      twice false = refl

      apart : (s t : Bool) → (s ≡ true → t ≡ true → ⊥) → cond t (Some e.1) (cond s (Some x) (looked_up es)) ≡ cond s (Some x) (cond t (Some e.1) (looked_up es))
      apart true true h = absurd (h refl refl)
      apart true false h = refl
      apart false true h = refl
      apart false false h = refl

      of : (b : Bool) → same (see k) (see e.0) ≡ b → looked_up (insert_entry eq es k x) ≡ cond (same n (see k)) (Some x) (looked_up es)
          → looked_up (if b then (e.0, x) ∷ es else e ∷ insert_entry eq es k x) ≡ cond (same n (see k)) (Some x) (cond (same n (see e.0)) (Some e.1) (looked_up es))
      of true is more =
          twice (same n (see e.0)) ∙ ap (λ m. cond (same n m) (Some x) (cond (same n (see e.0)) (Some e.1) (looked_up es))) (sym (exact (see k) (see e.0) is))
      of false is more = ap (cond (same n (see e.0)) (Some e.1)) more ∙ apart (same n (see k)) (same n (see e.0)) not_both
        where
          not_both : same n (see k) ≡ true → same n (see e.0) ≡ true → ⊥
          not_both a b =
              let k_is : see k ≡ see e.0 = sym (exact n (see k) a) ∙ exact n (see e.0) b in
              let both : same (see k) (see e.0) ≡ true = ap (same (see k)) (sym k_is) ∙ equal (see k) in
              cc

module _ (P : ℕ → Type 0) where
  -- one more number is among those that are looked for
  pub found_more : (n m : ℕ) → m ≡ n + 1 → (t : Bool) (o : Option ℕ) → (t ≡ true → P m) → (P m → t ≡ true) → IsFound n P o → IsFound m P (cond t (Some m) o)
  found_more n m e true o is only found = is refl
  found_more n m e false (Some i) is only found = found
  found_more n m e false None is only found = λ i low p. elim (below_or_last i low) [ inl h ↦ found i h p | inr h ↦ let q : false ≡ true = only (subst P h p) in cc ]
    where
      below_or_last : (i : ℕ) → i ≤ m → (i ≤ n) ⊎ (i ≡ m)
      below_or_last i low = grind arith

  -- fewer numbers are among them
  pub found_within : (n m : ℕ) → m ≤ n → (o : Option ℕ) → IsFound n P o → IsFound m P o
  found_within n m low (Some i) found = found
  found_within n m low None found = λ i high p. found i (omega arith) p
