-- The places of sorts in their kinds, sort by sort, and the entries of a kind.
use Rattle.std.proofs.Common.{◌≡◌, ◌∙◌, ◌⊎◌, ℕ, zero, suc, ◌<◌, ◌≤◌, ◌+◌, ◌-◌, List, [], ◌∷◌, ◌++◌, length, get_or, set, map, refl, ap, sym, subst, inl, inr, arith, length-append, length-set}
use Rattle.std.specs.Prelude.{slice_get, Some}
use Rattle.std.specs.Global.{Vec}
use Rattle.std.proofs.lemmas.Bool.{cases_eq}
use Rattle.std.proofs.lemmas.List.{length-map}
use Rattle.std.proofs.Math.ListN.{get_or-append}
use Rattle.std.proofs.Math.Seq.{get_or-append_seam}
use Rattle.mw_logic.specs.Signature.{Signature, Sorted, sort, kind, SameKind, same}
use Rattle.mw_logic.specs.Accepted.{number_of_sort}
use Rattle.mw_logic.specs.Sorts.{IsBelow}
use Rattle.mw_logic.specs.Preregular.{IsSortOf}
use Rattle.mw_logic.proofs.KindLaws.{SameKind-sym, SameKind-trans}
use Rattle.mw_poset.specs.SortOrder.{SortOrder}
use Rattle.mw_poset.specs.Order.{IsKindOf}
use Rattle.mw_sorts.specs.Entries.{IsEntry, IsBefore, place_in}
use Rattle.mw_sorts.specs.Sorting.{StandsAt, ArePlacesOf, IsSorting, AreEntriesOf}
use Rattle.mw_sorts.proofs.Getting.{get-none, get-left, get-last, get-push, get-same, get-within, get-map, map-get}
use Rattle.mw_logic.proofs.BelowLaws.{IsBelow-refl}
use Rattle.mw_sorts.proofs.Connected.{there-with, kind-one, kind-with}

set-here : {X : Type 0} (xs : List X) (i : ℕ) (x y : X) → slice_get xs i ≡ Some y → slice_get (set xs i x) i ≡ Some x
set-here [] i x y e = absurd (get-none e)
set-here (z ∷ zs) zero x y e = refl
set-here (z ∷ zs) (suc i) x y e = set-here zs i x y e

set-there : {X : Type 0} (xs : List X) (i j : ℕ) (x : X) → (j ≡ i → ⊥) → slice_get (set xs i x) j ≡ slice_get xs j
set-there [] i j x n = refl
set-there (z ∷ zs) zero zero x n = absurd (n refl)
set-there (z ∷ zs) zero (suc j) x n = refl
set-there (z ∷ zs) (suc i) zero x n = refl
set-there (z ∷ zs) (suc i) (suc j) x n = set-there zs i j x (λ e. n (ap suc e))

-- One sort more: `list` is that of its kind, number i from 0.
module _ (sig : Signature) (n i : ℕ) (places : List ℕ) (members : List (Vec ℕ)) (list more : Vec ℕ) (h : ArePlacesOf sig n places members) (k : IsKindOf sig.pairs (suc n) (suc i)) (e : slice_get members i ≡ Some list)
    (m : more.items ≡ list.items ++ suc n ∷ []) where
  new_places : List ℕ
  new_places = places ++ length list.items ∷ []

  new_members : List (Vec ℕ)
  new_members = set members i more

  old-place : (j : ℕ) → j < n → get_or new_places j 0 ≡ get_or places j 0
  unfolding new_places
  old-place j l = let s = h.size in get_or-append places (length list.items ∷ []) 0 j (omega arith)

  new-place : get_or new_places n 0 ≡ length list.items
  unfolding new_places
  new-place = subst (λ (q : ℕ). get_or (places ++ length list.items ∷ []) q 0 ≡ length list.items) h.size (get_or-append_seam places (length list.items) [] 0)

  there : slice_get new_members i ≡ Some more
  unfolding new_members
  there = set-here members i more list e

  -- what stood somewhere stands there still
  still : (K p S : ℕ) → StandsAt members K p S → StandsAt new_members K p S
  unfolding new_members
  still zero p S s = absurd (get-none s.1)
  still (suc j) p S s = elim (cases_eq j i) [
    | inl q ↦
        let was : s.0 ≡ list = get-same members i s.0 list (subst (λ (x : ℕ). slice_get members x ≡ Some s.0) q s.1) e in (
          more,
          subst (λ (x : ℕ). slice_get (set members i more) x ≡ Some more) (sym q) there,
          subst (λ (xs : List ℕ). slice_get xs p ≡ Some S) (sym m) (get-left list.items (suc n ∷ []) p S (subst (λ (v : Vec ℕ). slice_get v.items p ≡ Some S) was s.2)),
        )
    | inr d ↦ (s.0, set-there members i j more d ∙ s.1, s.2)
  ]

  -- what stands somewhere stood there, or is the new sort
  stood : (K p S : ℕ) → StandsAt new_members K p S → StandsAt members K p S ⊎ ((K ≡ suc i) × (p ≡ length list.items) × (S ≡ suc n))
  unfolding new_members
  stood zero p S s = absurd (get-none s.1)
  stood (suc j) p S s = elim (cases_eq j i) [
    | inl q ↦
        let is : s.0 ≡ more = get-same (set members i more) i s.0 more (subst (λ (x : ℕ). slice_get (set members i more) x ≡ Some s.0) q s.1) there in
        let at_p : slice_get (list.items ++ suc n ∷ []) p ≡ Some S = subst (λ (xs : List ℕ). slice_get xs p ≡ Some S) m (subst (λ (v : Vec ℕ). slice_get v.items p ≡ Some S) is s.2) in
        elim (get-push list.items (suc n) p S at_p) [
          | inl g ↦ inl (list, subst (λ (x : ℕ). slice_get members x ≡ Some list) (sym q) e, g)
          | inr g ↦ inr (ap suc q, g.0, sym g.1)
        ]
    | inr d ↦ inl (s.0, sym (set-there members i j more d) ∙ s.1, s.2)
  ]

  pub places-more : ArePlacesOf sig (suc n) (places ++ length list.items ∷ []) (set members i more)
  unfolding new_places new_members
  places-more = record {
    size = let s = h.size in let l = length-append places (length list.items ∷ []) in omega arith;
    kinds = length-set members i more ∙ h.kinds;
    placed = λ j K l g. elim (cases_eq j n) [
      | inl q ↦
          let one : K ≡ suc i = kind-one sig (suc n) K (suc i) (subst (λ (x : ℕ). IsKindOf sig.pairs (suc x) K) q g) k in
          let last : StandsAt (set members i more) (suc i) (length list.items) (suc n) = (more, there, subst (λ (xs : List ℕ). slice_get xs (length list.items) ≡ Some (suc n)) (sym m) (get-last list.items (suc n))) in
          let by_kind : StandsAt (set members i more) K (length list.items) (suc n) = subst (λ (x : ℕ). StandsAt (set members i more) x (length list.items) (suc n)) (sym one) last in
          let by_place : StandsAt (set members i more) K (get_or (places ++ length list.items ∷ []) n 0) (suc n) = subst (λ (x : ℕ). StandsAt (set members i more) K x (suc n)) (sym new-place) by_kind in
          subst (λ (x : ℕ). StandsAt (set members i more) K (get_or (places ++ length list.items ∷ []) x 0) (suc x)) (sym q) by_place
      | inr d ↦
          let less : j < n = omega arith in
          subst (λ (x : ℕ). StandsAt (set members i more) K x (suc j)) (sym (old-place j less)) (still K _ (suc j) (h.placed j K less g))
    ];
    held = λ K p S s. elim (stood K p S s) [
      | inl o ↦
          let r = h.held K p S o in
          let low = r.0 in
          let high = r.1 in
          (r.0, omega arith, r.2, old-place (S - 1) (omega arith) ∙ r.3)
      | inr g ↦
          let back : S - 1 ≡ n = let q = g.2 in omega arith in (
            let q = g.2 in omega arith,
            let q = g.2 in omega arith,
            subst (λ (x : ℕ). IsKindOf sig.pairs S x) (sym g.0) (subst (λ (x : ℕ). IsKindOf sig.pairs x (suc i)) (sym g.2) k),
            ap (λ (x : ℕ). get_or (places ++ length list.items ∷ []) x 0) back ∙ new-place ∙ sym g.1,
          )
    ];
    rising = λ j l K low high a b. elim (cases_eq l n) [
      | inl q ↦
          let one : K ≡ suc i = kind-one sig (suc n) K (suc i) (subst (λ (x : ℕ). IsKindOf sig.pairs (suc x) K) q b) k in
          let less : j < n = omega arith in
          let s = h.placed j (suc i) less (subst (λ (x : ℕ). IsKindOf sig.pairs (suc j) x) one a) in
          let was : s.0 ≡ list = get-same members i s.0 list s.1 e in
          let before : get_or places j 0 < length list.items = get-within list.items (get_or places j 0) (suc j) (subst (λ (v : Vec ℕ). slice_get v.items (get_or places j 0) ≡ Some (suc j)) was s.2) in
          let x = old-place j less in
          let y = new-place in
          let z : get_or (places ++ length list.items ∷ []) l 0 ≡ get_or (places ++ length list.items ∷ []) n 0 = ap (λ (x : ℕ). get_or (places ++ length list.items ∷ []) x 0) q in
          omega arith
      | inr d ↦
          let less : l < n = omega arith in
          let under : j < n = omega arith in
          let x = old-place j under in
          let y = old-place l less in
          let r = h.rising j l K low less a b in
          omega arith
    ];
  }

-- no sort has a place yet
pub places-none : (sig : Signature) (members : List (Vec ℕ)) → length members ≡ length sig.sorts → ((q : ℕ) (list : Vec ℕ) → slice_get members q ≡ Some list → list.items ≡ []) → ArePlacesOf sig 0 [] members
places-none sig members n empty = record {
  size = refl;
  kinds = n;
  placed = λ k K l g. absurd (omega arith);
  held = λ K p S s. absurd (nothing K p S s);
  rising = λ j k K l m a b. absurd (omega arith);
}
  where
    nothing : (K p S : ℕ) → StandsAt members K p S → ⊥
    nothing zero p S s = get-none s.1
    nothing (suc q) p S s = get-none (subst (λ (xs : List ℕ). slice_get xs p ≡ Some S) (empty q s.0 s.1) s.2)

-- The entries of K's kind: its sorts, those of list number i from 0, and K behind them.
module _ (sig : Signature) (order : SortOrder) (places : List ℕ) (members : List (Vec ℕ)) (h : IsSorting sig order places members) (K i : ℕ) (list : Vec ℕ) (k : IsKindOf sig.pairs K (suc i)) (e : slice_get members i ≡ Some list) where
  entries : List Sorted
  entries = map sort list.items ++ kind K ∷ []

  long : length entries ≡ suc (length list.items)
  unfolding entries
  long = let l = length-append (map sort list.items) (kind K ∷ []) in let m = length-map list.items sort in omega arith

  sort-entry : (p S : ℕ) → slice_get list.items p ≡ Some S → SameKind sig S K × (get_or places (S - 1) 0 ≡ p)
  sort-entry p S g =
      let r = h.placed.held (suc i) p S (list, e, g) in
      (SameKind-trans (r.2.same sig refl) (SameKind-sym (k.same sig refl)), r.3)

  entry-sort : (S : ℕ) → SameKind sig S K → IsSortOf sig S → slice_get list.items (get_or places (S - 1) 0) ≡ Some S
  entry-sort S s t =
      let low = t.0 in
      let high = t.1 in
      let q : suc (S - 1) ≡ S = omega arith in
      let r = h.placed.placed (S - 1) (suc i) (omega arith) (subst (λ (x : ℕ). IsKindOf sig.pairs x (suc i)) (sym q) (kind-with sig K S (suc i) s k)) in
      let was : r.0 ≡ list = get-same members i r.0 list r.1 e in
      subst (λ (x : ℕ). slice_get list.items (get_or places (S - 1) 0) ≡ Some x) q (subst (λ (v : Vec ℕ). slice_get v.items (get_or places (S - 1) 0) ≡ Some (suc (S - 1))) was r.2)

  -- a place has a sort of the kind, or it is the last one, with the kind
  split : (p : ℕ) (S : Sorted) → slice_get entries p ≡ Some S → ((T : ℕ) × (slice_get list.items p ≡ Some T) × (sort T ≡ S)) ⊎ ((p ≡ length list.items) × (kind K ≡ S))
  unfolding entries
  split p S g = elim (get-push (map sort list.items) (kind K) p S g) [
    | inl a ↦ inl (map-get sort list.items p S a)
    | inr b ↦ inr (b.0 ∙ length-map list.items sort, b.1)
  ]

  pub entries-are : IsSortOf sig K → AreEntriesOf (record { signature = sig; places = places }) K (map sort list.items ++ kind K ∷ [])
  unfolding entries
  entries-are there = record {
    of_kind = λ p S g. elim (split p S g) [
      | inl a ↦ subst (λ (U : Sorted). SameKind sig (number_of_sort U) K) a.2 (sort-entry p a.0 a.1).0
      | inr b ↦ subst (λ (U : Sorted). SameKind sig (number_of_sort U) K) b.1 same
    ];
    entry = λ p S g. elim (split p S g) [
      | inl a ↦ subst (λ (U : Sorted). IsEntry sig K U) a.2 (sort-entry p a.0 a.1).0
      | inr b ↦ subst (λ (U : Sorted). IsEntry sig K U) b.1 refl
    ];
    at_place = λ p S g. elim (split p S g) [
      | inl a ↦ subst (λ (U : Sorted). place_in places (length entries) U ≡ p) a.2 (sort-entry p a.0 a.1).1
      | inr b ↦ subst (λ (U : Sorted). place_in places (length entries) U ≡ p) b.1 (let l = long in let q = b.0 in omega arith)
    ];
    all = λ S s. find S s there;
    in_order = λ S T s t b. before S T s t b there;
  }
    where
      find : (S : Sorted) → SameKind sig (number_of_sort S) K → IsSortOf sig K → (T : Sorted) × (slice_get entries (place_in places (length entries) S) ≡ Some T) × IsBelow sig S T × IsBelow sig T S
      find (sort S) s t =
          (sort S, get-left (map sort list.items) (kind K ∷ []) _ (sort S) (get-map sort list.items (get_or places (S - 1) 0) S (entry-sort S s (there-with sig h.sorts S K s t))), IsBelow-refl sig (sort S), IsBelow-refl sig (sort S))
      find (kind L) s t =
          let l = long in
          let m = length-map list.items sort in
          let q : length entries - 1 ≡ length (map sort list.items) = omega arith in
          (kind K, subst (λ (x : ℕ). slice_get (map sort list.items ++ kind K ∷ []) x ≡ Some (kind K)) (sym q) (get-last (map sort list.items) (kind K)), s, SameKind-sym s)

      before : (S T : Sorted) → SameKind sig (number_of_sort S) K → SameKind sig (number_of_sort T) K → IsBefore S T → IsSortOf sig K → place_in places (length entries) S < place_in places (length entries) T
      before (sort S) (sort T) s t b r =
          let p = there-with sig h.sorts S K s r in
          let q = there-with sig h.sorts T K t r in
          let low = p.0 in
          let high = q.1 in
          let x : suc (S - 1) ≡ S = omega arith in
          let y : suc (T - 1) ≡ T = omega arith in
          h.placed.rising (S - 1) (T - 1) (suc i) (omega arith) (omega arith) (subst (λ (z : ℕ). IsKindOf sig.pairs z (suc i)) (sym x) (kind-with sig K S (suc i) s k)) (subst (λ (z : ℕ). IsKindOf sig.pairs z (suc i)) (sym y) (kind-with sig K T (suc i) t k))
      before (sort S) (kind L) s t b r =
          let w = get-within list.items (get_or places (S - 1) 0) S (entry-sort S s (there-with sig h.sorts S K s r)) in
          let l = long in
          omega arith
      before (kind J) (sort T) s t b r = absurd b
      before (kind J) (kind L) s t b r = absurd b

-- one more empty list
pub empty-more : (members new : List (Vec ℕ)) (list : Vec ℕ) → ((q : ℕ) (l : Vec ℕ) → slice_get members q ≡ Some l → l.items ≡ []) → list.items ≡ [] → new ≡ members ++ list ∷ [] → (q : ℕ) (l : Vec ℕ) → slice_get new q ≡ Some l → l.items ≡ []
empty-more members new list h e n q l g =
    elim (get-push members list q l (subst (λ (ms : List (Vec ℕ)). slice_get ms q ≡ Some l) n g)) [ inl a ↦ h q l a | inr b ↦ subst (λ (v : Vec ℕ). v.items ≡ []) b.1 e ]

-- a number that is there, counted from 0
pub counted : (K : ℕ) → 1 ≤ K → suc (K - 1) ≡ K
counted K l = omega arith

-- the next sort gets its place
pub placed-next : (sig : Signature) (n number K : ℕ) (places new : List ℕ) (members members' : List (Vec ℕ)) (list more : Vec ℕ) → ArePlacesOf sig n places members → number ≡ n + 1 → 1 ≤ K → IsKindOf sig.pairs number K
    → slice_get members (K - 1) ≡ Some list → more.items ≡ list.items ++ number ∷ [] → new ≡ places ++ length list.items ∷ [] → members' ≡ set members (K - 1) more → ArePlacesOf sig (n + 1) new members'
placed-next sig n number K places new members members' list more h num low k e m p q =
    let one : number ≡ suc n = omega arith in
    let after : n + 1 ≡ suc n = omega arith in
    let k1 : IsKindOf sig.pairs (suc n) K = subst (λ (x : ℕ). IsKindOf sig.pairs x K) one k in
    let k2 : IsKindOf sig.pairs (suc n) (suc (K - 1)) = subst (λ (x : ℕ). IsKindOf sig.pairs (suc n) x) (sym (counted K low)) k1 in
    let m1 : more.items ≡ list.items ++ suc n ∷ [] = subst (λ (x : ℕ). more.items ≡ list.items ++ x ∷ []) one m in
    let r = places-more sig n (K - 1) places members list more h k2 e m1 in
    let r1 : ArePlacesOf sig (n + 1) (places ++ length list.items ∷ []) (set members (K - 1) more) = subst (λ (x : ℕ). ArePlacesOf sig x (places ++ length list.items ∷ []) (set members (K - 1) more)) (sym after) r in
    let r2 : ArePlacesOf sig (n + 1) new (set members (K - 1) more) = subst (λ (x : List ℕ). ArePlacesOf sig (n + 1) x (set members (K - 1) more)) (sym p) r1 in
    subst (λ (x : List (Vec ℕ)). ArePlacesOf sig (n + 1) new x) (sym q) r2
