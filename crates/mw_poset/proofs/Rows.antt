-- The rows over the kinds, and how the order is read off them.
use Rattle.std.specs.Prelude.{All, ◌↔◌, slice_index}
use Rattle.std.specs.List.Sorted.{IsStrictlyIncreasing}
use Rattle.std.proofs.Common.{◌≡◌, ◌≢◌, ℕ, zero, suc, ◌+◌, ◌-◌, ◌*◌, ◌<◌, ◌≤◌, List, [], ◌∷◌, ◌++◌, length, refl, ap, sym, ◌∙◌, inl, inr, arith, get_or, take, drop, subst, add-one, replicate, length-append}
use Rattle.std.proofs.lemmas.List.{get_or_append_left, get_or-append_right, get_or_default, length-replicate}
use Rattle.std.proofs.lemmas.Bool.{cases_lt}
use Rattle.mw_logic.specs.Signature.{Member, same}
use Rattle.mw_logic.specs.Sorts.{AtOrBelow}
use Rattle.mw_poset.specs.SortOrder.{SortOrder}
use Rattle.mw_poset.specs.Order.{IsSort, IsKindOf}
use Rattle.mw_poset.specs.Groups.{AreGroups, group_of}
use Rattle.mw_poset.specs.Row.{HasPlace, MarkedPlaces}
use Rattle.mw_poset.specs.Search.{IsMarked, AreMarked}
use Rattle.mw_poset.specs.Tables.{AreKinds, AreOfOneKind, AreRows, IsRow, IsOrder}
use Rattle.mw_poset.proofs.Members.{member-at, written}
use Rattle.mw_poset.proofs.Bits.{zeros}
use Rattle.mw_poset.proofs.Chains.{AtOrBelow-connected, connected-SameKind}
use Rattle.mw_poset.proofs.Reading.{some_signature, kind-within, kinds_agree, kinds_same}

-- marks of the first searches alone
pub record MarksSoFar (sorts k : ℕ) (marks : List ℕ) : Type 0 where
  pub size : length marks ≡ sorts
  pub low : (j : ℕ) → slice_index marks j ≤ k

pub marks_more : (order : SortOrder) (k : ℕ) (old new : List ℕ) → MarksSoFar order.sorts k old → AreMarked order (k + 1) old new → length new ≡ length old → MarksSoFar order.sorts (k + 1) new
marks_more order k old new h m n = record {
  size = n ∙ h.size;
  low = λ j. elim (m.others j) [ inl q ↦ omega arith | inr q ↦ let b = h.low j in omega arith ];
}

-- the sorts of a kind are there
pub group-within : (sorts : ℕ) (kinds : List ℕ) (members : List (List ℕ)) (places : List ℕ) (K : ℕ) → AreGroups sorts kinds members places → IsSort (length kinds) K → All (IsSort sorts) (group_of members K)
group-within sorts kinds members places K h s k d l = (h.listed K (get_or (group_of members K) k d) s (member-at (group_of members K) k d l)).0

-- a row of marked places is the row of what is reached
pub reached_row : (order : SortOrder) (S : ℕ) (old marks group row : List ℕ) → All (IsSort order.sorts) group → AreMarked order S old marks → MarkedPlaces S marks group row → IsRow order.pairs S group row
reached_row order S old marks group row a m p = record {
  room = p.room;
  exact = λ i l. (
    (λ h. (m.reached (slice_index group i)).0 (from_place (slice_index group i) (a i 0 l) ((p.exact i l).0 h))),
    (λ h. (p.exact i l).1 (to_place (slice_index group i) ((m.reached (slice_index group i)).1 h))),
  );
}
  where
    from_place : (T : ℕ) → IsSort order.sorts T → slice_index marks (T - 1) ≡ S → IsMarked S marks T
    from_place zero s e = let low = s.0 in absurd (omega arith)
    from_place (suc k) s e = ap (λ (i : ℕ). slice_index marks i) (let o : k ≡ suc k - 1 = omega arith in o) ∙ e

    to_place : (T : ℕ) → IsMarked S marks T → slice_index marks (T - 1) ≡ S
    to_place zero h = absurd h
    to_place (suc k) h = ap (λ (i : ℕ). slice_index marks i) (let o : suc k - 1 ≡ k = omega arith in o) ∙ h

-- one more row
pub rows_more : (order : SortOrder) (k : ℕ) (kinds : List ℕ) (members rows : List (List ℕ)) (row : List ℕ) → AreRows order k kinds members rows → IsRow order.pairs (suc k) (group_of members (slice_index kinds k)) row
    → AreRows order (k + 1) kinds members (rows ++ row ∷ [])
rows_more order k kinds members rows row h r = record {
  size = let z = h.size in length-append rows (row ∷ []) ∙ omega arith;
  exact = λ j l. elim (cases_lt j k) [
    | inl b ↦ let z = h.size in subst (λ (xs : List ℕ). IsRow order.pairs (suc j) (group_of members (slice_index kinds j)) xs) (sym (get_or_append_left rows (row ∷ []) [] j (omega arith))) (h.exact j b)
    | inr g ↦
        let e : j ≡ k = omega arith in
        let here : get_or (rows ++ row ∷ []) k [] ≡ row = get_or-append_right rows (row ∷ []) k k [] h.size (omega arith) ∙ ap (λ (i : ℕ). get_or (row ∷ []) i []) (let o : k - k ≡ 0 = omega arith in o) in
        subst (λ (i : ℕ). IsRow order.pairs (suc i) (group_of members (slice_index kinds i)) (get_or (rows ++ row ∷ []) i [])) (sym e)
        (subst (λ (xs : List ℕ). IsRow order.pairs (suc k) (group_of members (slice_index kinds k)) xs) (sym here) r)
  ];
}

-- the list that is read is that of the kind
pub group_read : (order : SortOrder) (kinds : List ℕ) (members : List (List ℕ)) (K : ℕ) (list read : List ℕ) → AreKinds order kinds → length members ≡ length kinds → IsSort order.sorts K → list ≡ read → read ≡ get_or members (K - 1) read
    → group_of members K ≡ list
group_read order kinds members K list read h n s e r =
    let low = s.0 in
    let high = s.1 in
    let z = h.size in
    sym (e ∙ r ∙ get_or_default members (K - 1) read [] (omega arith))

-- the same from a sort of the kind
row_group : (order : SortOrder) (k : ℕ) (kinds : List ℕ) (members : List (List ℕ)) (places list read : List ℕ) → AreKinds order kinds → AreGroups order.sorts kinds members places → k < order.sorts → list ≡ read
    → read ≡ get_or members (slice_index kinds k - 1) read → group_of members (slice_index kinds k) ≡ list
row_group order k kinds members places list read h g l e r =
    let z = h.size in
    group_read order kinds members (slice_index kinds k) list read h g.lists (h.within k 0 (omega arith)) e r

pub row_group-within : (order : SortOrder) (k n : ℕ) (kinds : List ℕ) (members : List (List ℕ)) (places old lent new now list read : List ℕ) → AreKinds order kinds → AreGroups order.sorts kinds members places → k < order.sorts
    → MarksSoFar order.sorts k old → lent ≡ old → n ≡ length old → length new ≡ length lent → list ≡ read → read ≡ get_or members (slice_index kinds k - 1) read → now ≡ take n (new ++ drop (length new) old)
    → All (IsSort (length now)) list
row_group-within order k n kinds members places old lent new now list read h g l m el en ln e r is =
    let z = h.size in
    let count : length now ≡ order.sorts = ap (λ (xs : List ℕ). length xs) (is ∙ written n old lent new el en ln) ∙ ln ∙ ap (λ (xs : List ℕ). length xs) el ∙ m.size in
    subst (λ (xs : List ℕ). All (IsSort (length now)) xs) (row_group order k kinds members places list read h g l e r)
    (subst (λ (i : ℕ). All (IsSort i) (group_of members (slice_index kinds k))) (sym count)
    (group-within order.sorts kinds members places (slice_index kinds k) g (subst (λ (i : ℕ). IsSort i (slice_index kinds k)) (sym z) (h.within k 0 (omega arith)))))

-- one more search, and its row
pub rows_step : (order : SortOrder) (k n : ℕ) (kinds : List ℕ) (members : List (List ℕ)) (places : List ℕ) (rows new_rows : List (List ℕ)) (old lent new now list read row : List ℕ) → AreKinds order kinds
    → AreGroups order.sorts kinds members places → k < order.sorts → AreRows order k kinds members rows × MarksSoFar order.sorts k old → lent ≡ old → n ≡ length old → length new ≡ length lent → AreMarked order (k + 1) lent new
    → list ≡ read → read ≡ get_or members (slice_index kinds k - 1) read → now ≡ take n (new ++ drop (length new) old) → MarkedPlaces (k + 1) now list row → new_rows ≡ rows ++ row ∷ []
    → AreRows order (k + 1) kinds members new_rows × MarksSoFar order.sorts (k + 1) (take n (new ++ drop (length new) old))
rows_step order k n kinds members places rows new_rows old lent new now list read row h g l i el en ln m e r is p q =
    let z = h.size in
    let whole = written n old lent new el en ln in
    let marked : AreMarked order (k + 1) old new = subst (λ (xs : List ℕ). AreMarked order (k + 1) xs new) el m in
    let group : List ℕ = group_of members (slice_index kinds k) in
    let within : All (IsSort order.sorts) group = group-within order.sorts kinds members places (slice_index kinds k) g (subst (λ (i : ℕ). IsSort i (slice_index kinds k)) (sym z) (h.within k 0 (omega arith))) in
    let p1 = subst (λ (xs : List ℕ). MarkedPlaces (k + 1) xs list row) (is ∙ whole) p in
    let p2 = subst (λ (xs : List ℕ). MarkedPlaces (k + 1) new xs row) (sym (row_group order k kinds members places list read h g l e r)) p1 in
    let one : IsRow order.pairs (suc k) group row = subst (λ (S : ℕ). IsRow order.pairs S group row) (add-one k) (reached_row order (k + 1) old new group row within marked p2) in (
      subst (λ (xss : List (List ℕ)). AreRows order (k + 1) kinds members xss) (sym q) (rows_more order k kinds members rows row i.0 one),
      subst (λ (xs : List ℕ). MarksSoFar order.sorts (k + 1) xs) (sym whole) (marks_more order k old new i.1 marked (ln ∙ ap (λ (xs : List ℕ). length xs) el)),
    )

-- a sort's kind
pub kind_at : (order : SortOrder) (kinds : List ℕ) → AreKinds order kinds → (S : ℕ) → IsSort order.sorts S → IsKindOf order.pairs S (slice_index kinds (S - 1))
kind_at order kinds h S s =
    let low = s.0 in
    let high = s.1 in
    subst (λ (T : ℕ). IsKindOf order.pairs T (slice_index kinds (S - 1))) (let e : suc (S - 1) ≡ S = omega arith in e) (h.exact (S - 1) (omega arith))

-- in the row of S is the place of T where S is at or below T, if they are of one kind
pub row_has : (order : SortOrder) (kinds : List ℕ) (members : List (List ℕ)) (places : List ℕ) (rows : List (List ℕ)) (S T : ℕ) → IsOrder order kinds members places rows → IsSort order.sorts S → IsSort order.sorts T
    → slice_index kinds (S - 1) ≡ slice_index kinds (T - 1)
    → (slice_index places (T - 1) < 64 * length (get_or rows (S - 1) [])) × (HasPlace (get_or rows (S - 1) []) (slice_index places (T - 1)) ↔ AtOrBelow order.pairs S T)
row_has order kinds members places rows S T h s t e =
    let low = s.0 in
    let high = s.1 in
    let low_too = t.0 in
    let high_too = t.1 in
    let group : List ℕ = group_of members (slice_index kinds (S - 1)) in
    let same : group_of members (slice_index kinds (T - 1)) ≡ group = ap (λ (K : ℕ). group_of members K) (sym e) in
    let r : IsRow order.pairs (suc (S - 1)) group (get_or rows (S - 1) []) = h.rows_are.exact (S - 1) (omega arith) in
    let within : slice_index places (T - 1) < length group = subst (λ (xs : List ℕ). slice_index places (T - 1) < length xs) same (h.groups.placed (T - 1) (omega arith)) in
    let there : slice_index group (slice_index places (T - 1)) ≡ suc (T - 1) =
    subst (λ (xs : List ℕ). slice_index xs (slice_index places (T - 1)) ≡ suc (T - 1)) same (h.groups.there (T - 1) (omega arith)) in
    let is_s : suc (S - 1) ≡ S = omega arith in
    let is_t : suc (T - 1) ≡ T = omega arith in
    let room = r.room in (
      omega arith,
      subst (λ (U : ℕ). HasPlace (get_or rows (S - 1) []) (slice_index places (T - 1)) ↔ AtOrBelow order.pairs S U) (there ∙ is_t)
          (subst (λ (U : ℕ). HasPlace (get_or rows (S - 1) []) (slice_index places (T - 1)) ↔ AtOrBelow order.pairs U (slice_index group (slice_index places (T - 1)))) is_s
          (r.exact (slice_index places (T - 1)) within)),
    )

-- what is kept, of the order as it is seen
pub as_seen : {links order : SortOrder} {kinds : List ℕ} {members : List (List ℕ)} {places : List ℕ} {rows : List (List ℕ)} → links ≡ order → IsOrder links kinds members places rows → IsOrder order kinds members places rows
as_seen {kinds} {members} {places} {rows} e h = subst (λ (o : SortOrder). IsOrder o kinds members places rows) e h

-- a kind is the one that is kept, and is there
pub kind_is : (order : SortOrder) (kinds : List ℕ) → AreKinds order kinds → (S K : ℕ) → IsSort order.sorts S → IsKindOf order.pairs S K → K ≡ slice_index kinds (S - 1)
kind_is order kinds h S K s k = kinds_same order.pairs (some_signature order.pairs) S S K (slice_index kinds (S - 1)) k (kind_at order kinds h S s) refl same

pub kind-sort : (order : SortOrder) (kinds : List ℕ) → AreKinds order kinds → (S K : ℕ) → IsSort order.sorts S → IsKindOf order.pairs S K → IsSort order.sorts K
kind-sort order kinds h S K s k =
    let low = s.0 in
    let high = s.1 in
    let z = h.size in
    subst (λ (L : ℕ). IsSort order.sorts L) (sym (kind_is order kinds h S K s k)) (h.within (S - 1) 0 (omega arith))

-- the look-up of a pair of sorts of one kind
pub le_read : (order : SortOrder) (kinds : List ℕ) (members : List (List ℕ)) (places : List ℕ) (rows : List (List ℕ)) (S T K L : ℕ) (row : List ℕ) (place : ℕ) → IsOrder order kinds members places rows
    → IsSort order.sorts S → IsSort order.sorts T → IsKindOf order.pairs S K → IsKindOf order.pairs T L → K ≡ L → row ≡ get_or rows (S - 1) row → place ≡ get_or places (T - 1) place
    → (place < 64 * length row) × (HasPlace row place ↔ AtOrBelow order.pairs S T)
le_read order kinds members places rows S T K L row place h s t k l e r p =
    let low = s.0 in
    let high = s.1 in
    let low_too = t.0 in
    let high_too = t.1 in
    let n = h.rows_are.size in
    let m = h.groups.size in
    let same_kinds : slice_index kinds (S - 1) ≡ slice_index kinds (T - 1) = sym (kind_is order kinds h.kinds_are S K s k) ∙ e ∙ kind_is order kinds h.kinds_are T L t l in
    let row_is : get_or rows (S - 1) [] ≡ row = sym (r ∙ get_or_default rows (S - 1) row [] (omega arith)) in
    let place_is : slice_index places (T - 1) ≡ place = sym (p ∙ get_or_default places (T - 1) place 0 (omega arith)) in
    subst (λ (i : ℕ). (i < 64 * length row) × (HasPlace row i ↔ AtOrBelow order.pairs S T)) place_is
    (subst (λ (xs : List ℕ). (slice_index places (T - 1) < 64 * length xs) × (HasPlace xs (slice_index places (T - 1)) ↔ AtOrBelow order.pairs S T)) row_is
    (row_has order kinds members places rows S T h s t same_kinds))

-- a chain stays in a kind
pub chain-kind : (ps : List (ℕ × ℕ)) (S T K L : ℕ) → IsKindOf ps S K → IsKindOf ps T L → AtOrBelow ps S T → K ≡ L
chain-kind ps S T K L p q c = kinds_same ps (some_signature ps) S T K L p q refl (connected-SameKind ps (some_signature ps) refl (AtOrBelow-connected ps c))

-- the list of a sort's kind has the sorts of that kind
pub group-kind : (order : SortOrder) (kinds : List ℕ) (members : List (List ℕ)) (places : List ℕ) (S K : ℕ) → AreKinds order kinds → AreGroups order.sorts kinds members places → IsSort order.sorts S → IsKindOf order.pairs S K
    → IsSort order.sorts K → ((T : ℕ) → AreOfOneKind order.pairs S T → IsSort order.sorts T) → (T : ℕ) → Member T (group_of members K) ↔ AreOfOneKind order.pairs S T
group-kind order kinds members places S K h g s k sk within T = ((λ m. to m), (λ c. from c))
  where
    is_sort : IsSort (length kinds) K
    is_sort = subst (λ (n : ℕ). IsSort n K) (sym h.size) sk

    to : Member T (group_of members K) → AreOfOneKind order.pairs S T
    to m =
        let p = g.listed K T is_sort m in
        let of : IsKindOf order.pairs T K = subst (λ (L : ℕ). IsKindOf order.pairs T L) p.1 (kind_at order kinds h T p.0) in
        λ sig e. kinds_agree order.pairs S T K k of sig e

    from : AreOfOneKind order.pairs S T → Member T (group_of members K)
    from c =
        let t = within T c in
        let low = t.0 in
        let high = t.1 in
        let of = kind_at order kinds h T t in
        let same : slice_index kinds (T - 1) ≡ K = sym (kinds_same order.pairs (some_signature order.pairs) S T K (slice_index kinds (T - 1)) k of refl (c (some_signature order.pairs) refl)) in
        let i = g.there (T - 1) (omega arith) in
        let is_t : suc (T - 1) ≡ T = omega arith in
        let m = member-at (group_of members (slice_index kinds (T - 1))) (slice_index places (T - 1)) 0 (g.placed (T - 1) (omega arith)) in
        subst (λ (L : ℕ). Member T (group_of members L)) same (subst (λ (U : ℕ). Member U (group_of members (slice_index kinds (T - 1)))) (i ∙ is_t) m)

-- the sorts of a sort's kind, in order
pub record IsKindList (order : SortOrder) (S : ℕ) (list : List ℕ) : Type 0 where
  pub listed : (T : ℕ) → Member T list ↔ AreOfOneKind order.pairs S T
  pub within : All (IsSort order.sorts) list
  pub in_order : IsStrictlyIncreasing list

pub kind_list : (order : SortOrder) (kinds : List ℕ) (members : List (List ℕ)) (places : List ℕ) (rows : List (List ℕ)) (S K : ℕ) (list read : List ℕ) → IsOrder order kinds members places rows → IsSort order.sorts S
    → IsKindOf order.pairs S K → list ≡ read → read ≡ get_or members (K - 1) read → IsKindList order S list
kind_list order kinds members places rows S K list read h s k e r =
    subst (λ (xs : List ℕ). IsKindList order S xs) (group_read order kinds members K list read h.kinds_are h.groups.lists there e r) (record {
      listed = group-kind order kinds members places S K h.kinds_are h.groups s k there (λ T t. kind-within order S T h.within s t);
      within = group-within order.sorts kinds members places K h.groups in_kinds;
      in_order = h.groups.in_order K in_kinds;
    })
  where
    there : IsSort order.sorts K
    there = kind-sort order kinds h.kinds_are S K s k

    in_kinds : IsSort (length kinds) K
    in_kinds = subst (λ (n : ℕ). IsSort n K) (sym h.kinds_are.size) there
