-- Kinds by the order of sorts.
use Rattle.std.proofs.Common.{ℕ, zero, suc, ◌≡◌, ◌≢◌, ◌++◌, length-append, ◌∙◌, ◌<◌, ◌≤◌, ◌⊎◌, ◌+◌, List, [], ◌∷◌, length, All, Some, get_or, refl, sym, ap, subst, inl, inr, arith}
use Rattle.std.specs.List.{slice_get}
use Rattle.mw_logic.specs.Signature.{Signature, Member, SameKind, same, up, down}
use Rattle.mw_logic.proofs.KindLaws.{SameKind-sym, SameKind-equal}
use Rattle.mw_poset.specs.Order.{IsSort, ArePairsOf, IsKindOf}
use Rattle.mw_poset.proofs.Members.{member-all}
use Rattle.mw_poset.proofs.Reading.{kinds_same}
use Rattle.mw_chart.proofs.Lists.{get_same, get_left, get_last, eq_or}
use Rattle.mw_grammar.specs.Readable.{kind_in, AreKinds}

le_or : (m n : ℕ) → (m ≤ n) ⊎ (n < m)
le_or zero n = inl (omega arith)
le_or (suc m) zero = inr (omega arith)
le_or (suc m) (suc n) = elim (le_or m n) [ inl h ↦ inl (omega arith) | inr h ↦ inr (omega arith) ]

-- the kinds of the sorts up to one
pub record HasKindsOf (pairs : List (ℕ × ℕ)) (n : ℕ) (kinds : List ℕ) : Type 0 where
  pub count : length kinds ≡ n + 1
  pub none : slice_get kinds 0 ≡ Some 0
  pub each : (S : ℕ) → IsSort n S → (K : ℕ) × (slice_get kinds S ≡ Some K) × IsKindOf pairs S K

-- one kind more
pub kinds_push : (pairs : List (ℕ × ℕ)) (n K : ℕ) (kinds new : List ℕ) → HasKindsOf pairs n kinds → IsKindOf pairs (n + 1) K → new ≡ kinds ++ K ∷ [] → HasKindsOf pairs (n + 1) new
kinds_push pairs n K kinds new h is e = record {
  count = ap length e ∙ (let l = length-append kinds (K ∷ []) in let c = h.count in omega (arith, l, c));
  none = ap (λ xs. slice_get xs 0) e ∙ get_left kinds (K ∷ []) 0 0 h.none;
  each = λ S s. by_cases S (last_or S s);
}
  where
    last_or : (S : ℕ) → IsSort (n + 1) S → IsSort n S ⊎ (S ≡ n + 1)
    last_or S s = elim (eq_or S (n + 1)) [ inl q ↦ inr q | inr q ↦ inl (s.0, (let t = s.1 in below S t q)) ]
      where
        below : (S : ℕ) → S ≤ n + 1 → S ≢ n + 1 → S ≤ n
        below S t q = elim (le_or S n) [ inl r ↦ r | inr r ↦ absurd (q (omega arith)) ]

    by_cases : (S : ℕ) → IsSort n S ⊎ (S ≡ n + 1) → (L : ℕ) × (slice_get new S ≡ Some L) × IsKindOf pairs S L
    by_cases S (inl s) = let r = h.each S s in (r.0, ap (λ xs. slice_get xs S) e ∙ get_left kinds (K ∷ []) S r.0 r.1, r.2)
    by_cases S (inr q) = (
      K,
      ap (λ xs. slice_get xs S) e ∙ ap (slice_get (kinds ++ K ∷ [])) (q ∙ sym h.count) ∙ get_last kinds K,
      subst (λ (m : ℕ). IsKindOf pairs m K) (sym q) is,
    )

module _ (sig : Signature) (n : ℕ) (kinds : List ℕ) (sorts : n ≡ length sig.sorts) (of : ArePairsOf n sig.pairs) (has : HasKindsOf sig.pairs n kinds) where
  in_range : (S : ℕ) → IsSort n S ⊎ ((S ≡ 0) ⊎ (n < S))
  in_range S = by_cases n S
    where
      by_cases : (n S : ℕ) → IsSort n S ⊎ ((S ≡ 0) ⊎ (n < S))
      by_cases n zero = inr (inl refl)
      by_cases zero (suc S) = inr (inr (omega arith))
      by_cases (suc n) (suc S) = elim (by_cases n S) [
        | inl h ↦ inl (omega arith, omega (arith, h.1))
        | inr (inl e) ↦ inl (omega arith, omega (arith, e))
        | inr (inr h) ↦ inr (inr (omega (arith, h)))
      ]

  kind_at : (S : ℕ) (h : IsSort n S) → kind_in kinds S ≡ (has.each S h).0
  kind_at S h = get_same kinds S (has.each S h).0 S (has.each S h).1

  kind_out : (S : ℕ) → (S ≡ 0) ⊎ (n < S) → kind_in kinds S ≡ S
  kind_out S (inl e) = ap (kind_in kinds) e ∙ get_same kinds 0 0 0 has.none ∙ sym e
  kind_out S (inr h) = past kinds S (let c = has.count in omega (arith, c))
    where
      past : (xs : List ℕ) (k : ℕ) → length xs ≤ k → get_or xs k S ≡ S
      past [] k h = refl
      past (x ∷ xs) zero h = absurd (omega arith)
      past (x ∷ xs) (suc k) h = past xs k (omega arith)

  pair_in : (ps : List (ℕ × ℕ)) → All (λ p. IsSort n p.0 × IsSort n p.1) ps → (S T : ℕ) → Member (S, T) ps → IsSort n S × IsSort n T
  pair_in ps a S T m = member-all (λ (p : ℕ × ℕ). IsSort n p.0 × IsSort n p.1) ps a (S, T) m

  -- a number that is no sort's is of no other's kind
  alone : (S T : ℕ) → (S ≡ 0) ⊎ (n < S) → SameKind sig S T → S ≡ T
  alone S T out same = refl
  alone S T out (up {T = U} m h) = absurd (no_sort S out (pair_in sig.pairs of S U m).0)
    where
      no_sort : (S : ℕ) → (S ≡ 0) ⊎ (n < S) → IsSort n S → ⊥
      no_sort S (inl e) h = omega (arith, e, h.0)
      no_sort S (inr l) h = omega (arith, l, h.1)
  alone S T out (down {T = U} m h) = absurd (no_sort S out (pair_in sig.pairs of U S m).1)
    where
      no_sort : (S : ℕ) → (S ≡ 0) ⊎ (n < S) → IsSort n S → ⊥
      no_sort S (inl e) h = omega (arith, e, h.0)
      no_sort S (inr l) h = omega (arith, l, h.1)

  agree : (S T : ℕ) → SameKind sig S T → kind_in kinds S ≡ kind_in kinds T
  agree S T s = elim (in_range S) [
    | inr out ↦ ap (kind_in kinds) (alone S T out s)
    | inl h ↦ elim (in_range T) [
      | inr out ↦ ap (kind_in kinds) (sym (alone T S out (SameKind-sym s)))
      | inl k ↦ kind_at S h ∙ kinds_same sig.pairs sig S T (has.each S h).0 (has.each T k).0 (has.each S h).2 (has.each T k).2 refl s ∙ sym (kind_at T k)
    ]
  ]

  pub are_kinds : AreKinds sig (kind_in kinds)
  are_kinds = record {
    same = λ S. elim (in_range S) [
      | inl h ↦ subst (SameKind sig S) (sym (kind_at S h)) ((has.each S h).2.same sig refl)
      | inr out ↦ SameKind-equal (sym (kind_out S out))
    ];
    agree = agree;
    within = λ S w. elim (in_range S) [
      | inl h ↦ (let k = kind_at S h in let l = (has.each S h).2.least sig refl S same in omega (arith, k, l))
      | inr out ↦ (let k = kind_out S out in omega (arith, k))
    ];
  }
