-- The steps of the loops, in the words of their goals.
use Rattle.std.specs.Prelude.{All, slice_index}
use Rattle.std.proofs.Common.{◌≡◌, ◌≢◌, ℕ, suc, ◌+◌, ◌-◌, ◌<◌, ◌≤◌, List, [], ◌∷◌, ◌++◌, length, refl, ap, sym, ◌∙◌, inl, inr, arith, get_or, set, take, drop, replicate, subst, add-one, length-set, get_or-set_same, get_or-set_other}
use Rattle.std.proofs.lemmas.List.{take_more, take_all, get_or_default, length-replicate, get_or-replicate}
use Rattle.std.proofs.lemmas.List.Elements.{All-more}
use Rattle.std.proofs.lemmas.Bool.{cases_eq, ne_eqb}
use Rattle.mw_logic.specs.Signature.{Member}
use Rattle.mw_logic.specs.Sorts.{AtOrBelow}
use Rattle.mw_poset.specs.SortOrder.{SortOrder}
use Rattle.mw_poset.specs.Order.{IsSort, ArePairsOf, IsOnCycle, IsKindOf}
use Rattle.mw_poset.specs.Tables.{AreListsOf, AreLinks, IsSymmetric, IsLeastReached, AreLeastReached, AreKinds, AreRows, IsOrder, supersorts, turned_too}
use Rattle.mw_poset.specs.Groups.{AreGroups}
use Rattle.mw_poset.specs.Search.{IsMarked, Marks, AreMarked}
use Rattle.mw_poset.proofs.Members.{written, member-at, member-last, supersorts-member, supersorts-push_same, supersorts-push_other}
use Rattle.mw_poset.proofs.Chains.{within-pair, turned_too-member, within-chain, least-kind}
use Rattle.mw_poset.proofs.Marking.{Search, search_begun, search_step, marked-sort, marks_marked, marks_new}
use Rattle.mw_poset.proofs.Grouping.{groups_more}
use Rattle.mw_poset.proofs.Reading.{kind-within, KindsSoFar, kinds_passed, kinds_named, on_cycle, no_cycle}

-- what is directly above a sort is there
pub above-within : (sorts : ℕ) (ps : List (ℕ × ℕ)) (above : List (List ℕ)) (S : ℕ) (list : List ℕ) → AreLinks sorts ps above → IsSort sorts S → list ≡ get_or above (S - 1) list → All (IsSort sorts) list
above-within sorts ps above S list h s e k d l =
    let low = s.0 in
    let high = s.1 in
    let n = h.lists.size in
    let i : suc (S - 1) ≡ S = omega arith in
    let direct : list ≡ supersorts ps S =
    e ∙ get_or_default above (S - 1) list [] (omega arith) ∙ h.lists.direct (S - 1) (omega arith) ∙ ap (λ (T : ℕ). supersorts ps T) i in
    (within-pair sorts ps h.within S (get_or list k d) (supersorts-member ps S (get_or list k d) (subst (λ (xs : List ℕ). Member (get_or list k d) xs) direct (member-at list k d l)))).1

-- one more pair goes to its list
lists_push : (sorts : ℕ) (ps : List (ℕ × ℕ)) (lists : List (List ℕ)) (S T : ℕ) (old new : List ℕ) → IsSort sorts S → AreListsOf sorts ps lists → old ≡ get_or lists (S - 1) old → new ≡ old ++ T ∷ []
    → AreListsOf sorts (ps ++ (S, T) ∷ []) (set lists (S - 1) new)
lists_push sorts ps lists S T old new s h e n = record {
  size = length-set lists (S - 1) new ∙ h.size;
  direct = λ k l. elim (cases_eq (suc k) S) [
    | inl i ↦ subst (λ (U : ℕ). get_or (set lists (U - 1) new) k [] ≡ supersorts (ps ++ (U, T) ∷ []) (suc k)) i (at_own k l i)
    | inr d ↦ get_or-set_other lists (S - 1) k new [] (let low = s.0 in λ q. d (omega arith)) ∙ h.direct k l ∙ sym (supersorts-push_other ps S T (suc k) (ne_eqb S (suc k) (λ q. d (sym q))))
  ];
}
  where
    at_own : (k : ℕ) → k < sorts → suc k ≡ S → get_or (set lists (suc k - 1) new) k [] ≡ supersorts (ps ++ (suc k, T) ∷ []) (suc k)
    at_own k l i =
        let z = h.size in
        let q : suc k - 1 ≡ k = omega arith in
        let r : S - 1 ≡ k = omega arith in
        let had : old ≡ supersorts ps (suc k) = e ∙ get_or_default lists (S - 1) old [] (omega arith) ∙ ap (λ (j : ℕ). get_or lists j []) r ∙ h.direct k l in
        ap (λ (j : ℕ). get_or (set lists j new) k []) q ∙ get_or-set_same lists k new [] (omega arith) ∙ n ∙ ap (λ (xs : List ℕ). xs ++ T ∷ []) had ∙ sym (supersorts-push_same ps (suc k) T)

pub lists_more : (sorts : ℕ) (ps : List (ℕ × ℕ)) (i : ℕ) (lists : List (List ℕ)) (old new : List ℕ) → i < length ps → IsSort sorts (get_or ps i (0, 0)).0 → AreListsOf sorts (take i ps) lists
    → old ≡ get_or lists ((get_or ps i (0, 0)).0 - 1) old → new ≡ old ++ (get_or ps i (0, 0)).1 ∷ [] → AreListsOf sorts (take (i + 1) ps) (set lists ((get_or ps i (0, 0)).0 - 1) new)
lists_more sorts ps i lists old new l s h e n =
    subst (λ (qs : List (ℕ × ℕ)). AreListsOf sorts qs (set lists ((get_or ps i (0, 0)).0 - 1) new)) (sym (take_more ps i (0, 0) l))
    (lists_push sorts (take i ps) lists (get_or ps i (0, 0)).0 (get_or ps i (0, 0)).1 old new s h e n)

-- a sort is marked and waits
pub mark_new : (mark : ℕ) (sorts : List ℕ) (i : ℕ) (old now new waited waits waiting : List ℕ) → i < length sorts → IsSort (length old) (get_or sorts i 0) → length now ≡ length old
    → Marks mark (take i sorts) old now waited waits → get_or now (get_or sorts i 0 - 1) 0 ≢ mark → new ≡ set now (get_or sorts i 0 - 1) mark → waiting ≡ waits ++ get_or sorts i 0 ∷ []
    → Marks mark (take (i + 1) sorts) old new waited waiting
mark_new mark sorts i old now new waited waits waiting l s n h e en ew =
    let low = s.0 in
    let high = s.1 in
    let S : ℕ = get_or sorts i 0 in
    let p : suc (S - 1) ≡ S = omega arith in
    let m = subst (λ (T : ℕ). Marks mark (take i sorts ++ T ∷ []) old (set now (S - 1) mark) waited (waits ++ T ∷ [])) p (marks_new mark (take i sorts) old now waited waits (S - 1) h (omega arith) e) in
    rw (take_more sorts i 0 l, en, ew) m

-- a sort is marked already
pub mark_old : (mark : ℕ) (sorts : List ℕ) (i : ℕ) (old now new waited waits waiting : List ℕ) → i < length sorts → IsSort (length old) (get_or sorts i 0)
    → Marks mark (take i sorts) old now waited waits → get_or now (get_or sorts i 0 - 1) 0 ≡ mark → new ≡ now → waiting ≡ waits
    → Marks mark (take (i + 1) sorts) old new waited waiting
mark_old mark sorts i old now new waited waits waiting l s h e en ew =
    let low = s.0 in
    let p : suc (get_or sorts i 0 - 1) ≡ get_or sorts i 0 = omega arith in
    let m = marks_marked mark (take i sorts) old now waited waits (get_or sorts i 0) h (subst (λ (T : ℕ). IsMarked mark now T) p e) in
    rw (take_more sorts i 0 l, en, ew) m

-- the search begins
pub search_from : (order : SortOrder) (from : ℕ) (marks waiting : List ℕ) → IsSort order.sorts from → length marks ≡ order.sorts → All (λ m. m ≢ from) marks → waiting ≡ from ∷ [] → Search order from marks (set marks (from - 1) from) waiting
search_from order from marks waiting s n a w =
    let low = s.0 in
    let high = s.1 in
    let p : suc (from - 1) ≡ from = omega arith in
    let b = search_begun order (from - 1) marks (omega arith) n (subst (λ (S : ℕ). All (λ m. m ≢ S) marks) (sym p) a) in
    rw w (subst (λ (S : ℕ). Search order S marks (set marks (from - 1) S) (S ∷ [])) p b)

-- what waits is there
pub waits-sort : (order : SortOrder) (from : ℕ) (old marks waiting rest : List ℕ) (S : ℕ) → IsSort order.sorts from → Search order from old marks waiting → waiting ≡ rest ++ S ∷ [] → IsSort order.sorts S
waits-sort order from old marks waiting rest S s h e =
    subst (λ (n : ℕ). IsSort n S) h.size (marked-sort from marks S s.0 (h.waits S (subst (λ (xs : List ℕ). Member S xs) (sym e) (member-last S rest))))

-- one that waited has had its turn
pub search_more : (order : SortOrder) (from S : ℕ) (old marks new waiting rest waits above : List ℕ) → Search order from old marks waiting → waiting ≡ rest ++ S ∷ []
    → above ≡ supersorts order.pairs S → length new ≡ length marks → Marks from above marks new rest waits → Search order from old new waits
search_more order from S old marks new waiting rest waits above h e ea l m =
    search_step order from S old marks new rest waits (subst (λ (xs : List ℕ). Search order from old marks xs) e h) (subst (λ (xs : List ℕ). Marks from xs marks new rest waits) ea m) l

pub cycle_found : (ps : List (ℕ × ℕ)) (S i : ℕ) (above : List ℕ) → above ≡ supersorts ps S → i < length above → AtOrBelow ps (get_or above i 0) S → IsOnCycle ps S
cycle_found ps S i above e l p = on_cycle ps S (get_or above i 0) (subst (λ (xs : List ℕ). Member (get_or above i 0) xs) e (member-at above i 0 l)) p

pub cycle_passed : (ps : List (ℕ × ℕ)) (S i : ℕ) (above : List ℕ) → above ≡ supersorts ps S → i < length above → All (λ T. AtOrBelow ps T S → ⊥) (take i (supersorts ps S))
    → (AtOrBelow ps (get_or above i 0) S → ⊥) → All (λ T. AtOrBelow ps T S → ⊥) (take (i + 1) (supersorts ps S))
cycle_passed ps S i above e l h n =
    All-more (λ (T : ℕ). AtOrBelow ps T S → ⊥) (supersorts ps S) i 0 (subst (λ (xs : List ℕ). i < length xs) e l) h (subst (λ (xs : List ℕ). AtOrBelow ps (get_or xs i 0) S → ⊥) e n)

pub no_cycle_left : (ps : List (ℕ × ℕ)) (S i : ℕ) (above : List ℕ) → above ≡ supersorts ps S → length above ≤ i → All (λ T. AtOrBelow ps T S → ⊥) (take i (supersorts ps S)) → IsOnCycle ps S → ⊥
no_cycle_left ps S i above e l h = no_cycle ps S (subst (λ (xs : List ℕ). All (λ (T : ℕ). AtOrBelow ps T S → ⊥) xs) (take_all i (supersorts ps S) (subst (λ (xs : List ℕ). length xs ≤ i) e l)) h)

-- pairs turned round are of the same sorts
pub turned-within : (sorts : ℕ) (ps both : List (ℕ × ℕ)) → ArePairsOf sorts ps → both ≡ turned_too ps → ArePairsOf sorts both
turned-within sorts ps both h e k d l =
    let p : ℕ × ℕ = get_or both k d in
    let m : Member {X = ℕ × ℕ} (p.0, p.1) (turned_too ps) = subst (λ (xs : List (ℕ × ℕ)). Member {X = ℕ × ℕ} p xs) e (member-at both k d l) in
    elim (turned_too-member ps p.0 p.1 m) [ inl i ↦ within-pair sorts ps h p.0 p.1 i | inr i ↦ let q = within-pair sorts ps h p.1 p.0 i in (q.1, q.0) ]

pub kinds_begun : (order : SortOrder) (kinds : List ℕ) → ArePairsOf order.sorts order.pairs → kinds ≡ replicate order.sorts 0 → KindsSoFar order 0 kinds
kinds_begun order kinds a e = record {
  size = ap (λ (xs : List ℕ). length xs) e ∙ length-replicate order.sorts 0;
  named = λ j l n. absurd (n (ap (λ (xs : List ℕ). get_or xs j 0) e ∙ get_or-replicate order.sorts j 0 0 l));
  unnamed = λ j l z T p. let s = within-chain order.sorts order.pairs a p (let low : 1 ≤ suc j = omega arith in let high : suc j ≤ order.sorts = omega arith in (low, high)) in let low = s.0 in omega arith;
}

-- the next sort has a kind already, or it is the least of those that it is connected with
pub kinds_old : (order : SortOrder) (k : ℕ) (kinds new : List ℕ) (read : ℕ) → IsSymmetric order.pairs → k < order.sorts → KindsSoFar order k kinds → read ≡ get_or kinds k read → (read ≡ 0 → ⊥) → new ≡ kinds
    → KindsSoFar order (k + 1) new
kinds_old order k kinds new read turn l h e n q =
    let z = h.size in
    let r : read ≡ get_or kinds k 0 = e ∙ get_or_default kinds k read 0 (omega arith) in
    rw q (kinds_passed order k kinds turn l h (λ i. n (r ∙ i)))

-- no sort has the next number as its kind
pub kind_free : (order : SortOrder) (k : ℕ) (kinds : List ℕ) → KindsSoFar order k kinds → All (λ m. m ≢ k + 1) kinds
kind_free order k kinds h j d l e =
    let z = h.size in
    let q = get_or_default kinds j d 0 l in
    let p = h.named j (omega arith) (λ i. absurd (omega arith)) in
    let low = p.1 in
    omega arith

pub kinds_new : (order : SortOrder) (k n : ℕ) (kinds lent named : List ℕ) (read : ℕ) → IsSymmetric order.pairs → k < order.sorts → KindsSoFar order k kinds → read ≡ get_or kinds k read → read ≡ 0
    → lent ≡ kinds → n ≡ length kinds → length named ≡ length lent → AreMarked order (k + 1) lent named
    → KindsSoFar order (k + 1) (take n (named ++ drop (length named) kinds))
kinds_new order k n kinds lent named read turn l h e z el en ln m =
    let size = h.size in
    let zero_there : get_or kinds k 0 ≡ 0 = sym (get_or_default kinds k read 0 (omega arith)) ∙ sym e ∙ z in
    let m1 = subst (λ (xs : List ℕ). AreMarked order (k + 1) xs named) el m in
    let m2 = subst (λ (i : ℕ). AreMarked order i kinds named) (add-one k) m1 in
    rw (written n kinds lent named el en ln) (kinds_named order k kinds named turn l h zero_there m2 (ln ∙ ap (λ (xs : List ℕ). length xs) el))

-- the least that sorts are connected with are their kinds
pub kinds_are : (links both : SortOrder) (sorts : ℕ) (ps : List (ℕ × ℕ)) (kinds : List ℕ) → ArePairsOf sorts ps → links.sorts ≡ sorts → links.pairs ≡ ps → both.sorts ≡ sorts → both.pairs ≡ turned_too ps
    → AreLeastReached both kinds → AreKinds links kinds
kinds_are links both sorts ps kinds a n e m f k = record {
  size = k.size ∙ m ∙ sym n;
  within = λ j d l.
      let z = k.size in
      let low : 1 ≤ suc j = omega arith in
      let high : suc j ≤ links.sorts = omega arith in
      let there : slice_index kinds j ≡ get_or kinds j d = get_or_default kinds j 0 d l in
      subst (λ (K : ℕ). IsSort links.sorts K) there
      (kind-within links (suc j) (slice_index kinds j) (subst (λ (qs : List (ℕ × ℕ)). ArePairsOf links.sorts qs) (sym e) (subst (λ (i : ℕ). ArePairsOf i ps) (sym n) a)) (low, high) (kind j (omega arith)).same);
  exact = kind;
}
  where
    kind : (j : ℕ) → j < links.sorts → IsKindOf links.pairs (suc j) (slice_index kinds j)
    kind j l =
        let p : IsLeastReached (turned_too ps) (suc j) (slice_index kinds j) =
        subst (λ (qs : List (ℕ × ℕ)). IsLeastReached qs (suc j) (slice_index kinds j)) f (k.exact j (omega (arith, n, m, l))) in
        subst (λ (qs : List (ℕ × ℕ)). IsKindOf qs (suc j) (slice_index kinds j)) (sym e) (least-kind ps (suc j) (slice_index kinds j) p)

-- one more sort is put to its kind
pub group_step : (k : ℕ) (kinds : List ℕ) (members : List (List ℕ)) (places new_places : List ℕ) (old list new : List ℕ) → All (IsSort (length kinds)) kinds → k < length kinds → AreGroups k kinds members places
    → old ≡ get_or members (get_or kinds k 0 - 1) old → list ≡ old → new ≡ old ++ (k + 1) ∷ [] → new_places ≡ places ++ length list ∷ [] → AreGroups (k + 1) kinds (set members (get_or kinds k 0 - 1) new) new_places
group_step k kinds members places new_places old list new a l h e ls n p =
    subst (λ (xs : List ℕ). AreGroups (k + 1) kinds (set members (get_or kinds k 0 - 1) new) xs) (ap (λ (xs : List ℕ). places ++ length xs ∷ []) (sym ls) ∙ sym p)
    (subst (λ (i : ℕ). AreGroups i kinds (set members (get_or kinds k 0 - 1) new) (places ++ length old ∷ [])) (sym (add-one k))
    (groups_more k kinds members places (get_or kinds k 0) old new a l refl h e (n ∙ ap (λ (i : ℕ). old ++ i ∷ []) (add-one k))))

-- what is kept, from what it was made of
pub preorder_kept : (links both : SortOrder) (sorts : ℕ) (ps : List (ℕ × ℕ)) (kinds lent lent_again : List ℕ) (members : List (List ℕ)) (places : List ℕ) (rows : List (List ℕ)) → ArePairsOf sorts ps → links.sorts ≡ sorts → links.pairs ≡ ps
    → both.sorts ≡ sorts → both.pairs ≡ turned_too ps → AreLeastReached both kinds → lent ≡ kinds → lent_again ≡ kinds → AreGroups sorts lent members places → AreRows links links.sorts lent_again members rows
    → IsOrder links kinds members places rows
preorder_kept links both sorts ps kinds lent lent_again members places rows a n e m f k l l_again g r = record {
  within = subst (λ (qs : List (ℕ × ℕ)). ArePairsOf links.sorts qs) (sym e) (subst (λ (i : ℕ). ArePairsOf i ps) (sym n) a);
  kinds_are = kinds_are links both sorts ps kinds a n e m f k;
  groups = subst (λ (i : ℕ). AreGroups i kinds members places) (sym n) (subst (λ (xs : List ℕ). AreGroups sorts xs members places) l g);
  rows_are = subst (λ (xs : List ℕ). AreRows links links.sorts xs members rows) l_again r;
}
