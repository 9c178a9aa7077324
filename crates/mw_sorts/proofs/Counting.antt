-- The sorts to which the successor leads from Zero, up to one that stands where an earlier one does.
use Rattle.std.proofs.Common.{◌≡◌, ◌≢◌, ◌⊎◌, ◌∙◌, ◌<◌, ◌≤◌, ℕ, zero, suc, List, [], ◌∷◌, ◌++◌, length, set, replicate, get_or, refl, ap, sym, subst, inl, inr, arith, length-append}
use Rattle.std.specs.Prelude.{slice_get, Some, codes, cond}
use Rattle.std.specs.Vec.{vec_len}
use Rattle.std.specs.Global.{Vec}
use Rattle.std.proofs.lemmas.Bool.{cases_eq, eq-eqb, ne_eqb}
use Rattle.mw_logic.specs.Signature.{Signature, Sorted, sort, Operator, IsSortNamed, IsSuccessor, SameKind}
use Rattle.mw_logic.specs.Sorts.{IsBelow}
use Rattle.mw_logic.specs.Accepted.{IsAccepted, IsWellSorted, number_of_sort}
use Rattle.mw_logic.proofs.KindLaws.{SameKind-trans, SameKind-sym}
use Rattle.mw_logic.proofs.BelowLaws.{IsBelow-trans, Takes-below}
use Rattle.mw_term.specs.Signatures.{sorted_of}
use Rattle.mw_term.specs.declared.signature.Sorted.{Sorted as Held}
use Rattle.mw_sorting.specs.ComputedSorts.{IsResultOn}
use Rattle.mw_sorting.specs.NumberTable.{entry_behind, IsNumberTable}
use Rattle.mw_sorting.proofs.Results.{result_kind}
use Rattle.mw_sorts.specs.Entries.{place_in}
use Rattle.mw_sorts.specs.Sorting.{Sorting, AreEntriesOf}
use Rattle.mw_sorts.specs.Numbers.{entry_at}
use Rattle.mw_sorts.proofs.Getting.{get-none, get-within, get-left, get-last, get-push, get-same, some_same, read-or}

-- the table so far: its entries and the one behind them, and of each place that an entry has, the number of the entry behind that one
pub record IsCounted (sorting : Sorting) (o : Operator) (Z width : ℕ) (entries : List Held) (behind : List ℕ) (last : Held) (spot : ℕ) : Type 0 where
  pub size : length behind ≡ width
  pub place : spot ≡ place_in sorting.places width (sorted_of last)
  pub of_kind : SameKind sorting.signature (number_of_sort (sorted_of last)) Z
  pub first : slice_get (entries ++ last ∷ []) 0 ≡ Some (Held.Sort Z)
  pub leads : (i : ℕ) (S R : Held) → slice_get (entries ++ last ∷ []) i ≡ Some S → slice_get (entries ++ last ∷ []) (suc i) ≡ Some R → IsResultOn sorting.signature o (sorted_of S ∷ []) (sorted_of R)
  pub marks : (p k : ℕ) → slice_get behind p ≡ Some (suc k)
      → (S : Held) × (slice_get entries k ≡ Some S) × (place_in sorting.places width (sorted_of S) ≡ p) × SameKind sorting.signature (number_of_sort (sorted_of S)) Z

pub vec_length : {X : Type 0} → (v : Vec X) → vec_len v ≡ length v.items
vec_length v = v.ok.0

-- how many places have no entry yet
abbrev pub zeros : List ℕ → ℕ
zeros [] = 0
zeros (zero ∷ xs) = suc (zeros xs)
zeros (suc n ∷ xs) = zeros xs

pub zeros-set : (xs : List ℕ) (i n : ℕ) → slice_get xs i ≡ Some 0 → 1 ≤ n → zeros (set xs i n) < zeros xs
zeros-set [] i n e l = absurd (get-none e)
zeros-set (x ∷ xs) zero zero e l = absurd (omega (arith, l))
zeros-set (zero ∷ xs) zero (suc n) e l = omega arith
zeros-set (suc x ∷ xs) zero (suc n) e l = cc
zeros-set (zero ∷ xs) (suc i) n e l = let h = zeros-set xs i n e l in omega (arith, h)
zeros-set (suc x ∷ xs) (suc i) n e l = zeros-set xs i n e l

no_mark : (n p k : ℕ) → slice_get (replicate n 0) p ≡ Some (suc k) → ⊥
no_mark zero p k e = get-none e
no_mark (suc n) zero k e = cc
no_mark (suc n) (suc p) k e = no_mark n p k e

get-set : {X : Type 0} (xs : List X) (i : ℕ) (x y : X) (p : ℕ) → slice_get (set xs i x) p ≡ Some y → ((p ≡ i) × (x ≡ y)) ⊎ (slice_get xs p ≡ Some y)
get-set [] i x y p e = inr e
get-set (z ∷ zs) zero x y zero e = inl (refl, some_same e)
get-set (z ∷ zs) zero x y (suc p) e = inr e
get-set (z ∷ zs) (suc i) x y zero e = inr e
get-set (z ∷ zs) (suc i) x y (suc p) e = elim (get-set zs i x y p e) [ inl h ↦ inl (ap suc h.0, h.1) | inr h ↦ inr h ]

pub counted-start : (sorting : Sorting) (o : Operator) (Z width spot : ℕ) (entries : List Held) (behind : List ℕ) → entries ≡ [] → behind ≡ replicate width 0 → length behind ≡ width
    → spot ≡ place_in sorting.places width (sort Z) → IsCounted sorting o Z width entries behind (Held.Sort Z) spot
counted-start sorting o Z width spot entries behind e b l p = rw e (record {
  size = l;
  place = p;
  of_kind = SameKind.same;
  first = refl;
  leads = λ i S R s r. absurd (get-none r);
  marks = λ p k m. absurd (no_mark width p k (subst (λ bs. slice_get bs p ≡ Some (suc k)) b m));
})

module _ (sorting : Sorting) (o : Operator) (Z width : ℕ) (entries : List Held) (behind : List ℕ) (last : Held) (spot : ℕ) (h : IsCounted sorting o Z width entries behind last spot) where
  -- the successor of the last entry comes behind it
  pub counted-more : (more : List Held) (marked : List ℕ) (next : Held) (n spot2 : ℕ) → more ≡ entries ++ last ∷ [] → n ≡ length more → marked ≡ set behind spot n → length marked ≡ length behind
      → IsResultOn sorting.signature o (sorted_of last ∷ []) (sorted_of next) → SameKind sorting.signature (number_of_sort (sorted_of next)) Z → spot2 ≡ place_in sorting.places width (sorted_of next)
      → IsCounted sorting o Z width more marked next spot2
  counted-more more marked next n spot2 e ne m l r k p = rw (e, m) (record {
    size = sym (ap length m) ∙ l ∙ h.size;
    place = p;
    of_kind = k;
    first = get-left (entries ++ last ∷ []) (next ∷ []) 0 (Held.Sort Z) h.first;
    leads = leads;
    marks = marks;
  })
    where
      long : length (entries ++ last ∷ []) ≡ suc (length entries)
      long = let a = length-append entries (last ∷ []) in omega (arith, a)

      leads : (i : ℕ) (S R : Held) → slice_get ((entries ++ last ∷ []) ++ next ∷ []) i ≡ Some S → slice_get ((entries ++ last ∷ []) ++ next ∷ []) (suc i) ≡ Some R → IsResultOn sorting.signature o (sorted_of S ∷ []) (sorted_of R)
      leads i S R s t = elim (get-push (entries ++ last ∷ []) next (suc i) R t) [
        | inl old ↦
            let w = get-within (entries ++ last ∷ []) (suc i) R old in
            elim (get-push (entries ++ last ∷ []) next i S s) [
              | inl there ↦ h.leads i S R there old
              | inr at ↦ absurd (omega (arith, w, at.0))
            ]
        | inr at ↦
            let i_is : length entries ≡ i = omega (arith, at.0, long) in
            let old : slice_get ((entries ++ last ∷ []) ++ next ∷ []) i ≡ Some last = get-left (entries ++ last ∷ []) (next ∷ []) i last (subst (λ j. slice_get (entries ++ last ∷ []) j ≡ Some last) i_is (get-last entries last)) in
            let same : last ≡ S = get-same ((entries ++ last ∷ []) ++ next ∷ []) i last S old s in
            subst (λ (Q : Held). IsResultOn sorting.signature o (sorted_of S ∷ []) (sorted_of Q)) at.1 (subst (λ (Q : Held). IsResultOn sorting.signature o (sorted_of Q ∷ []) (sorted_of next)) same r)
      ]

      marks : (p k : ℕ) → slice_get (set behind spot n) p ≡ Some (suc k)
          → (S : Held) × (slice_get (entries ++ last ∷ []) k ≡ Some S) × (place_in sorting.places width (sorted_of S) ≡ p) × SameKind sorting.signature (number_of_sort (sorted_of S)) Z
      marks p k m = elim (get-set behind spot n (suc k) p m) [
        | inl at ↦
            let k_is : length entries ≡ k = omega (arith, at.1, ne, ap length e, long) in
            (last, subst (λ j. slice_get (entries ++ last ∷ []) j ≡ Some last) k_is (get-last entries last), sym h.place ∙ sym at.0, h.of_kind)
        | inr old ↦ let s = h.marks p k old in (s.0, get-left entries (last ∷ []) k s.0 s.1, s.2, s.3)
      ]

  module _ (es : List Sorted) (are : AreEntriesOf sorting Z es) (wide : width ≡ length es) where
    -- its place is there
    pub spot-there : spot < length behind
    spot-there =
        let t = are.all (sorted_of last) h.of_kind in
        let w = get-within es _ t.0 (subst (λ n. slice_get es (place_in sorting.places n (sorted_of last)) ≡ Some t.0) (sym wide) t.1) in
        let p = h.place in
        let s = h.size in
        omega (arith, w, p, s, wide)

    -- where an earlier entry stands, that one leads on
    pub counted-table : (f back : ℕ) (final : List Held) → (is : IsSuccessor sorting.signature f) → is.operator ≡ o → IsSortNamed sorting.signature Z (codes "Zero") → slice_get behind spot ≡ Some back → back ≢ 0 → final ≡ entries ++ last ∷ []
        → IsNumberTable sorting.signature (length final) back (entry_at final)
    counted-table f zero final is so named b n e = absurd (n refl)
    counted-table f (suc k) final is so named b n e = rw e (record {
      cycle = omega (arith, long, within);
      zero = Z;
      named = named;
      first = ap sorted_of (value 0 (Held.Sort Z) h.first);
      successor = f;
      is = is;
      leads = λ i l. subst (λ (p : Operator). IsResultOn sorting.signature p (entry_at all i ∷ []) (entry_at all (entry_behind (length all) (suc k) i))) (sym so) (led i l (cases_eq (suc i) (length all)));
    })
      where
        all : List Held
        all = entries ++ last ∷ []

        long : length all ≡ suc (length entries)
        long = let a = length-append entries (last ∷ []) in omega (arith, a)

        mark : (S : Held) × (slice_get entries k ≡ Some S) × (place_in sorting.places width (sorted_of S) ≡ spot) × SameKind sorting.signature (number_of_sort (sorted_of S)) Z
        mark = h.marks spot k b

        within : k < length entries
        within = get-within entries k mark.0 mark.1

        value : (i : ℕ) (S : Held) → slice_get all i ≡ Some S → get_or all i (Held.Kind 0) ≡ S
        value i S g = some_same (sym (read-or all all i (Held.Kind 0) refl (get-within all i S g)) ∙ g)

        there : (i : ℕ) → i < length all → slice_get all i ≡ Some (get_or all i (Held.Kind 0))
        there i l = read-or all all i (Held.Kind 0) refl l

        -- two sorts in one place
        alike : IsBelow sorting.signature (sorted_of last) (sorted_of mark.0) × IsBelow sorting.signature (sorted_of mark.0) (sorted_of last)
        alike =
            let t = are.all (sorted_of last) h.of_kind in
            let u = are.all (sorted_of mark.0) mark.3 in
            let p : place_in sorting.places (length es) (sorted_of mark.0) ≡ place_in sorting.places (length es) (sorted_of last) =
            subst (λ w. place_in sorting.places w (sorted_of mark.0) ≡ place_in sorting.places w (sorted_of last)) wide (mark.2 ∙ h.place) in
            let same : t.0 ≡ u.0 = get-same es _ t.0 u.0 t.1 (subst (λ q. slice_get es q ≡ Some u.0) p u.1) in
            let t2 : IsBelow sorting.signature (sorted_of last) u.0 = subst (IsBelow sorting.signature (sorted_of last)) same t.2 in
            let t3 : IsBelow sorting.signature u.0 (sorted_of last) = subst (λ T. IsBelow sorting.signature T (sorted_of last)) same t.3 in
            (IsBelow-trans sorting.signature (sorted_of last) u.0 (sorted_of mark.0) t2 u.3, IsBelow-trans sorting.signature (sorted_of mark.0) u.0 (sorted_of last) u.2 t3)

        moved : (R : Sorted) → IsResultOn sorting.signature o (sorted_of mark.0 ∷ []) R → IsResultOn sorting.signature o (sorted_of last ∷ []) R
        moved R (inl l) = inl (record {
          takes = Takes-below sorting.signature o (sorted_of last ∷ []) (sorted_of mark.0 ∷ []) R (alike.0, tt) l.takes;
          least = λ Q t. l.least Q (Takes-below sorting.signature o (sorted_of mark.0 ∷ []) (sorted_of last ∷ []) Q (alike.1, tt) t);
        })
        moved R (inr n) = inr ((λ Q t. n.0 Q (Takes-below sorting.signature o (sorted_of mark.0 ∷ []) (sorted_of last ∷ []) Q (alike.1, tt) t)), n.1)

        led : (i : ℕ) → i < length all → (suc i ≡ length all) ⊎ (suc i ≢ length all) → IsResultOn sorting.signature o (entry_at all i ∷ []) (entry_at all (entry_behind (length all) (suc k) i))
        led i l (inl at) =
            let j : entry_behind (length all) (suc k) i ≡ suc k = ap (λ c. cond c (suc k) (suc i)) (eq-eqb (suc i) (length all) at) in
            let i_is : length entries ≡ i = omega (arith, at, long) in
            let is_last : get_or all i (Held.Kind 0) ≡ last = value i last (subst (λ q. slice_get all q ≡ Some last) i_is (get-last entries last)) in
            let g = there (suc k) (omega (arith, long, within)) in
            let r = h.leads k mark.0 (get_or all (suc k) (Held.Kind 0)) (get-left entries (last ∷ []) k mark.0 mark.1) g in
            rw (j, is_last) (moved _ r)
        led i l (inr other) =
            let j : entry_behind (length all) (suc k) i ≡ suc i = ap (λ c. cond c (suc k) (suc i)) (ne_eqb (suc i) (length all) other) in
            rw j (h.leads i _ _ (there i l) (there (suc i) (omega (arith, l, other))))

-- Zero is of the kind that the successor takes
pub zero-kind : (sig : Signature) (f Z : ℕ) → IsAccepted sig → IsWellSorted sig → IsSortNamed sig Z (codes "Zero") → (is : IsSuccessor sig f) → SameKind sig is.Nat Z
zero-kind sig f Z ok fitting named is =
    let (N, n, k) = fitting.zero Z is.nat named in
    let e : N ≡ is.Nat = ok.sorts_differ N is.Nat (codes "Nat") n is.named in
    subst (λ M. SameKind sig M Z) e k

pub next-kind : (sig : Signature) (f Z : ℕ) → IsAccepted sig → IsWellSorted sig → IsSortNamed sig Z (codes "Zero") → (is : IsSuccessor sig f) → (S R : Sorted) → IsResultOn sig is.operator (S ∷ []) R → SameKind sig (number_of_sort R) Z
next-kind sig f Z ok fitting named is S R r = SameKind-trans (result_kind sig fitting f is.operator is.is_there (S ∷ []) R r) (SameKind-trans (SameKind-sym is.of_kind) (zero-kind sig f Z ok fitting named is))
