-- The maximal sorts of a kind, by the order of sorts and by computing.
use Rattle.std.specs.Prelude.{Bool, true, false, cond, not, nat_eq, ◌&&◌, ◌↔◌}
use Rattle.std.specs.List.{filter, list_any, range_with_len}
use Rattle.std.specs.List.Sorted.{IsStrictlyIncreasing}
use Rattle.std.proofs.Common.{ℕ, zero, suc, ◌≡◌, ◌+◌, ◌<◌, ◌≤◌, ◌∙◌, List, [], ◌∷◌, length, get_or, refl, ap, sym, subst, inl, inr, arith}
use Rattle.std.proofs.lemmas.Bool.{false≢true, eqb-true, eq-eqb, cases_eq, or_cases, or_left, or_right, and_parts, and_from, not_from_false, false_from_ne_true}
use Rattle.mw_logic.specs.Signature.{Signature, Member}
use Rattle.mw_logic.specs.Sorts.{AtOrBelow}
use Rattle.mw_logic.specs.Accepted.{is_same_kind}
use Rattle.mw_logic.proofs.KindLaws.{kind_number-same, kind_number-sound}
use Rattle.mw_poset.specs.Order.{IsSort, IsMaximalIn}
use Rattle.mw_poset.proofs.Chains.{SameKind-connected, connected-SameKind}
use Rattle.mw_print.specs.Sorts.{is_below_another, is_maximal_in, maximal_sorts}

-- the first of an ascending list is below the others, and these ascend
tail_ascends : (x : ℕ) (xs : List ℕ) → IsStrictlyIncreasing (x ∷ xs) → IsStrictlyIncreasing xs
tail_ascends x xs h k l = let e : suc k + 1 ≡ suc (k + 1) = omega arith in subst (λ (i : ℕ). get_or xs k 0 < get_or (x ∷ xs) i 0) e (h (suc k) (omega arith))

head_below : (x : ℕ) (xs : List ℕ) → IsStrictlyIncreasing (x ∷ xs) → (T : ℕ) → Member T xs → x < T
head_below x [] h T m = absurd m
head_below x (y ∷ xs) h T (inl e) = let b : x < y = h 0 (omega arith) in omega (arith, e)
head_below x (y ∷ xs) h T (inr m) = let b : x < y = h 0 (omega arith) in let c = head_below y xs (tail_ascends x (y ∷ xs) h) T m in omega arith

-- the list has exactly the numbers from one on, so many of them, that pass the test
abbrev IsListOf : (ℕ → Bool) → ℕ → ℕ → List ℕ → Type 0
IsListOf test a n xs = (T : ℕ) → Member T xs ↔ ((a ≤ T) × (T < a + n) × (test T ≡ true))

tail_lists : (test : ℕ → Bool) (a n x : ℕ) (xs : List ℕ) → IsStrictlyIncreasing (x ∷ xs) → x ≡ a → IsListOf test a (suc n) (x ∷ xs) → IsListOf test (a + 1) n xs
tail_lists test a n x xs up e h T = (
  (λ m. let p = (h T).0 (inr m) in let b = head_below x xs up T m in let q = p.1 in (omega arith, omega arith, p.2)),
  (λ p. let low = p.0 in let high = p.1 in elim ((h T).1 (omega arith, omega arith, p.2)) [ inl q ↦ absurd (omega arith) | inr m ↦ m ]),
)

others_list : (test : ℕ → Bool) (a n : ℕ) (xs : List ℕ) → test a ≡ false → IsListOf test a (suc n) xs → IsListOf test (a + 1) n xs
others_list test a n xs fails h T = (
  (λ m. let p = (h T).0 m in let low = p.0 in let high = p.1 in elim (cases_eq a T) [
    | inl e ↦ absurd (let q = ap test e in let r = p.2 in cc)
    | inr d ↦ (omega arith, omega arith, p.2)
  ]),
  (λ p. let low = p.0 in let high = p.1 in (h T).1 (omega arith, omega arith, p.2)),
)

-- in order of number it is the list of those numbers
pub ascending_list : (test : ℕ → Bool) (n a : ℕ) (xs : List ℕ) → IsStrictlyIncreasing xs → IsListOf test a n xs → xs ≡ filter test (range_with_len a n)
ascending_list test zero a [] up h = refl
ascending_list test zero a (x ∷ xs) up h = absurd (let p = (h x).0 (inl refl) in let low = p.0 in let high = p.1 in omega arith)
ascending_list test (suc n) a xs up h = by_test (test a) refl xs up h (ascending_list test n (a + 1))
  where
    by_test : (b : Bool) → test a ≡ b → (xs : List ℕ) → IsStrictlyIncreasing xs → IsListOf test a (suc n) xs
        → ((ys : List ℕ) → IsStrictlyIncreasing ys → IsListOf test (a + 1) n ys → ys ≡ filter test (range_with_len (a + 1) n)) → xs ≡ cond b (a ∷ filter test (range_with_len (a + 1) n)) (filter test (range_with_len (a + 1) n))
    by_test false e xs up h rest = rest xs up (others_list test a n xs e h)
    by_test true e [] up h rest = absurd ((h a).1 (omega arith, omega arith, e))
    by_test true e (x ∷ xs) up h rest =
        let first : x ≡ a = elim ((h a).1 (omega arith, omega arith, e)) [
          | inl q ↦ q
          | inr m ↦ (let b = head_below x xs up a m in let low = ((h x).0 (inl refl)).0 in absurd (omega arith))
        ] in
        let others = rest xs (tail_ascends x xs up) (tail_lists test a n x xs up first h) in
        cc

-- a list passes as one of its members does
some_passes : {X : Type 0} (test : X → Bool) (xs : List X) → list_any test xs ≡ true → (x : X) × Member x xs × (test x ≡ true)
some_passes test [] h = cc
some_passes test (y ∷ xs) h = elim (or_cases (test y) (list_any test xs) h) [ inl e ↦ (y, inl refl, e) | inr k ↦ let r = some_passes test xs k in (r.0, inr r.1, r.2) ]

passes : {X : Type 0} (test : X → Bool) (xs : List X) (x : X) → Member x xs → test x ≡ true → list_any test xs ≡ true
passes test [] x m e = absurd m
passes test (y ∷ xs) x (inl q) e = or_left (test y) (list_any test xs) (ap test q ∙ e)
passes test (y ∷ xs) x (inr m) e = or_right (test y) (list_any test xs) (passes test xs x m e)

-- a sort that no pair has below another has no other above it
top_only : (ps : List (ℕ × ℕ)) (T : ℕ) → is_below_another ps T ≡ false → (S U : ℕ) → S ≡ T → AtOrBelow ps S U → U ≡ T
top_only ps T fails S U e AtOrBelow.same = e
top_only ps T fails S U e (AtOrBelow.above {T = V} m c) = elim (cases_eq V T) [
  | inl q ↦ top_only ps T fails V U q c
  | inr d ↦ (let above_it = passes (λ (p : ℕ × ℕ). nat_eq p.0 T && not (nat_eq p.1 T)) ps (S, V) m (and_from _ _ (eq-eqb S T e) (not_from_false _ (false_from_ne_true _ (λ h. d (eqb-true V T h))))) in cc)
]

only_top : (ps : List (ℕ × ℕ)) (T : ℕ) → ((U : ℕ) → AtOrBelow ps T U → U ≡ T) → is_below_another ps T ≡ false
only_top ps T h = false_from_ne_true _ (λ e.
    let r = some_passes (λ (p : ℕ × ℕ). nat_eq p.0 T && not (nat_eq p.1 T)) ps e in
    let q = and_parts (nat_eq r.0.0 T) (not (nat_eq r.0.1 T)) r.2 in
    let pair = subst (λ (S : ℕ). Member (S, r.0.1) ps) (eqb-true r.0.0 T q.0) r.1 in
    let same = eq-eqb r.0.1 T (h r.0.1 (AtOrBelow.above pair AtOrBelow.same)) in
    false≢true (ap not (sym same) ∙ q.1))

-- the test tells the maximal sorts
maximal-true : (sig : Signature) (K T : ℕ) → is_maximal_in sig K T ≡ true → IsMaximalIn sig.pairs K T
maximal-true sig K T h =
    let p = and_parts (is_same_kind sig K T) (not (is_below_another sig.pairs T)) h in record {
      same = λ other e. connected-SameKind sig.pairs other e (SameKind-connected sig.pairs sig refl (kind_number-sound sig K T (eqb-true _ _ p.0)));
      none_above = λ U c. top_only sig.pairs T (no p.1) T U refl c;
    }
  where
    no : {b : Bool} → not b ≡ true → b ≡ false
    no {b} e = false_from_ne_true b (λ k. false≢true (ap not (sym k) ∙ e))

maximal-from : (sig : Signature) (K T : ℕ) → IsMaximalIn sig.pairs K T → is_maximal_in sig K T ≡ true
maximal-from sig K T m = and_from _ _ (eq-eqb _ _ (kind_number-same (m.same sig refl))) (not_from_false _ (only_top sig.pairs T m.none_above))

-- The maximal sorts of a kind, listed in order of number, are those of the definition.
pub maximal_are : (sig : Signature) (K : ℕ) (found : List ℕ) → ((T : ℕ) → Member T found ↔ IsMaximalIn sig.pairs K T) → ((T : ℕ) → Member T found → IsSort (length sig.sorts) T)
    → IsStrictlyIncreasing found → found ≡ maximal_sorts sig K
maximal_are sig K found listed within up = ascending_list (is_maximal_in sig K) (length sig.sorts) 1 found up (λ T. (
  (λ m. let s = within T m in let high = s.1 in (s.0, omega arith, maximal-from sig K T ((listed T).0 m))),
  (λ p. (listed T).1 (maximal-true sig K T p.2)),
))
