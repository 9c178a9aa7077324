-- Sorts by their kinds: one more sort goes to the list of its kind.
use Rattle.std.specs.Prelude.{All, slice_index}
use Rattle.std.specs.List.Sorted.{IsStrictlyIncreasing}
use Rattle.std.proofs.Common.{◌≡◌, ◌≢◌, ℕ, suc, ◌+◌, ◌-◌, ◌<◌, ◌≤◌, List, [], ◌∷◌, ◌++◌, length, refl, ap, sym, ◌∙◌, inl, inr, arith, get_or, set, subst, length-append, length-set, get_or-set_same, get_or-set_other}
use Rattle.std.proofs.lemmas.List.{get_or_append_left, get_or-append_right, get_or_default}
use Rattle.std.proofs.lemmas.Bool.{cases_eq, cases_lt}
use Rattle.mw_logic.specs.Signature.{Member}
use Rattle.mw_poset.specs.Order.{IsSort}
use Rattle.mw_poset.specs.Groups.{AreGroups, group_of}
use Rattle.mw_poset.proofs.Members.{member-at, member-push}

-- one more at the end, above all others
pub increasing-push : (xs : List ℕ) (y : ℕ) → IsStrictlyIncreasing xs → ((T : ℕ) → Member T xs → T < y) → IsStrictlyIncreasing (xs ++ y ∷ [])
increasing-push xs y h below k l =
    let n = length-append xs (y ∷ []) in
    elim (cases_lt (k + 1) (length xs)) [
      | inl i ↦ let a = get_or_append_left xs (y ∷ []) 0 k (omega arith) in let b = get_or_append_left xs (y ∷ []) 0 (k + 1) i in let c = h k i in omega arith
      | inr g ↦
          let e : k + 1 ≡ length xs = omega arith in
          let a = get_or_append_left xs (y ∷ []) 0 k (omega arith) in
          let b = get_or-append_right xs (y ∷ []) (length xs) (k + 1) 0 refl g in
          let z : k + 1 - length xs ≡ 0 = omega arith in
          let f : get_or (y ∷ []) (k + 1 - length xs) 0 ≡ y = ap (λ (i : ℕ). get_or (y ∷ []) i 0) z in
          let c = below (get_or xs k 0) (member-at xs k 0 (omega arith)) in
          omega arith
    ]

-- the list of a kind with one more, and those of the other kinds
group_same : (members : List (List ℕ)) (K : ℕ) (old new : List ℕ) (S : ℕ) → IsSort (length members) K → old ≡ get_or members (K - 1) old → new ≡ old ++ S ∷ [] → group_of (set members (K - 1) new) K ≡ group_of members K ++ S ∷ []
group_same members K old new S s e n =
    let low = s.0 in
    let high = s.1 in
    get_or-set_same members (K - 1) new [] (omega arith) ∙ n ∙ ap (λ (xs : List ℕ). xs ++ S ∷ []) (e ∙ get_or_default members (K - 1) old [] (omega arith))

group_other : (members : List (List ℕ)) (K L : ℕ) (new : List ℕ) → 1 ≤ K → 1 ≤ L → L ≢ K → group_of (set members (K - 1) new) L ≡ group_of members L
group_other members K L new k l n = get_or-set_other members (K - 1) (L - 1) new [] (λ e. n (omega arith))

-- what stands at a place of a list still does when one more is put somewhere
group_kept : (members : List (List ℕ)) (K L : ℕ) (old new : List ℕ) (S i : ℕ) → IsSort (length members) K → old ≡ get_or members (K - 1) old → new ≡ old ++ S ∷ [] → 1 ≤ L → i < length (group_of members L)
    → (i < length (group_of (set members (K - 1) new) L)) × (slice_index (group_of (set members (K - 1) new) L) i ≡ slice_index (group_of members L) i)
group_kept members K L old new S i s e n one l = elim (cases_eq L K) [
  | inl q ↦ subst (λ (J : ℕ). (i < length (group_of (set members (J - 1) new) L)) × (slice_index (group_of (set members (J - 1) new) L) i ≡ slice_index (group_of members L) i)) q (own q)
  | inr d ↦
      let o = group_other members K L new s.0 one d in
      (subst (λ (xs : List ℕ). i < length xs) (sym o) l, ap (λ (xs : List ℕ). slice_index xs i) o)
]
  where
    own : L ≡ K → (i < length (group_of (set members (L - 1) new) L)) × (slice_index (group_of (set members (L - 1) new) L) i ≡ slice_index (group_of members L) i)
    own q =
        let g = group_same members L old new S (subst (λ (J : ℕ). IsSort (length members) J) (sym q) s) (subst (λ (J : ℕ). old ≡ get_or members (J - 1) old) (sym q) e) n in
        let a = length-append (group_of members L) (S ∷ []) in
        let longer : i < length (group_of members L ++ S ∷ []) = omega arith in
        (subst (λ (xs : List ℕ). i < length xs) (sym g) longer, ap (λ (xs : List ℕ). slice_index xs i) g ∙ get_or_append_left (group_of members L) (S ∷ []) 0 i l)

-- the next sort goes to the list of its kind
pub groups_more : (k : ℕ) (kinds : List ℕ) (members : List (List ℕ)) (places : List ℕ) (K : ℕ) (old new : List ℕ) → All (IsSort (length kinds)) kinds → k < length kinds → K ≡ slice_index kinds k
    → AreGroups k kinds members places → old ≡ get_or members (K - 1) old → new ≡ old ++ suc k ∷ [] → AreGroups (suc k) kinds (set members (K - 1) new) (places ++ length old ∷ [])
groups_more k kinds members places K old new a lk is h e n = record {
  lists = length-set members (K - 1) new ∙ h.lists;
  size = let z = h.size in length-append places (length old ∷ []) ∙ omega arith;
  placed = λ j l. (by_place j l).0;
  there = λ j l. (by_place j l).1;
  listed = λ L S s m. elim (cases_eq L K) [
    | inl q ↦ elim (member-push S (suc k) (group_of members L) (subst (λ (xs : List ℕ). Member S xs) (own L q) m)) [
      | inl o ↦ before L S s o
      | inr w ↦ subst (λ (T : ℕ). IsSort (suc k) T × (slice_index kinds (T - 1) ≡ L)) w ((omega arith, omega arith), ap (λ (i : ℕ). slice_index kinds i) (let o : suc k - 1 ≡ k = omega arith in o) ∙ sym is ∙ sym q)
    ]
    | inr d ↦ before L S s (subst (λ (xs : List ℕ). Member S xs) (group_other members K L new there.0 s.0 d) m)
  ];
  in_order = λ L s. elim (cases_eq L K) [
    | inl q ↦ subst (λ (xs : List ℕ). IsStrictlyIncreasing xs) (sym (own L q)) (increasing-push (group_of members L) (suc k) (h.in_order L s) (λ T m. let p = (h.listed L T s m).0 in let high = p.1 in omega arith))
    | inr d ↦ subst (λ (xs : List ℕ). IsStrictlyIncreasing xs) (sym (group_other members K L new there.0 s.0 d)) (h.in_order L s)
  ];
}
  where
    sort : (j : ℕ) → j < length kinds → IsSort (length kinds) (slice_index kinds j)
    sort j l = a j 0 l

    there : IsSort (length members) K
    there = let s = sort k lk in let low = s.0 in let high = s.1 in let z = h.lists in (omega arith, omega arith)

    own : (L : ℕ) → L ≡ K → group_of (set members (K - 1) new) L ≡ group_of members L ++ suc k ∷ []
    own L q = subst (λ (J : ℕ). group_of (set members (K - 1) new) J ≡ group_of members J ++ suc k ∷ []) (sym q) (group_same members K old new (suc k) there e n)

    before : (L S : ℕ) → IsSort (length kinds) L → Member S (group_of members L) → IsSort (suc k) S × (slice_index kinds (S - 1) ≡ L)
    before L S s m = let p = h.listed L S s m in let low = p.0.0 in let high = p.0.1 in ((omega arith, omega arith), p.1)

    old_is : old ≡ group_of members K
    old_is = let low = there.0 in let high = there.1 in e ∙ get_or_default members (K - 1) old [] (omega arith)

    Placed : ℕ → ℕ → Type 0
    Placed j i = (i < length (group_of (set members (K - 1) new) (slice_index kinds j))) × (slice_index (group_of (set members (K - 1) new) (slice_index kinds j)) i ≡ suc j)

    last : Placed k (length old)
    last =
        let g : group_of (set members (K - 1) new) (slice_index kinds k) ≡ old ++ suc k ∷ [] = ap (λ (J : ℕ). group_of (set members (K - 1) new) J) (sym is) ∙ own K refl ∙ ap (λ (xs : List ℕ). xs ++ suc k ∷ []) (sym old_is) in
        let s = length-append old (suc k ∷ []) in
        let longer : length old < length (old ++ suc k ∷ []) = omega arith in (
          subst (λ (xs : List ℕ). length old < length xs) (sym g) longer,
          ap (λ (xs : List ℕ). slice_index xs (length old)) g ∙ get_or-append_right old (suc k ∷ []) (length old) (length old) 0 refl (omega arith)
              ∙ ap (λ (i : ℕ). get_or (suc k ∷ []) i 0) (let z : length old - length old ≡ 0 = omega arith in z),
        )

    by_place : (j : ℕ) → j < suc k → Placed j (slice_index (places ++ length old ∷ []) j)
    by_place j l = elim (cases_lt j k) [
      | inl b ↦
          let z = h.size in
          let kept = group_kept members K (slice_index kinds j) old new (suc k) (slice_index places j) there e n (sort j (omega arith)).0 (h.placed j b) in
          subst (λ (i : ℕ). Placed j i) (sym (get_or_append_left places (length old ∷ []) 0 j (omega arith))) (kept.0, kept.1 ∙ h.there j b)
      | inr g ↦
          let z = h.size in
          let same : j ≡ k = omega arith in
          subst (λ (i : ℕ). Placed i (slice_index (places ++ length old ∷ []) i)) (sym same)
          (subst (λ (i : ℕ). Placed k i)
          (sym (get_or-append_right places (length old ∷ []) k k 0 z (omega arith) ∙ ap (λ (i : ℕ). get_or (length old ∷ []) i 0) (let o : k - k ≡ 0 = omega arith in o))) last)
    ]
