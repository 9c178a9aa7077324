-- What is read off the marks and the lists: cycles, kinds and maximal sorts.
use Rattle.std.specs.Prelude.{All, ◌↔◌, false, slice_index}
use Rattle.std.specs.List.Sorted.{IsStrictlyIncreasing}
use Rattle.std.proofs.Common.{◌≡◌, ◌≢◌, ℕ, suc, ◌+◌, ◌<◌, ◌≤◌, List, [], ◌∷◌, ◌++◌, length, refl, sym, ◌∙◌, inl, inr, arith, subst, take}
use Rattle.std.proofs.lemmas.List.{take_more}
use Rattle.std.proofs.lemmas.Bool.{cases_eq}
use Rattle.mw_logic.specs.Signature.{Signature, Member, SameKind}
use Rattle.mw_logic.specs.Sorts.{AtOrBelow}
use Rattle.mw_logic.proofs.KindLaws.{SameKind-trans, SameKind-sym}
use Rattle.mw_poset.specs.SortOrder.{SortOrder}
use Rattle.mw_poset.specs.Order.{IsSort, ArePairsOf, IsOnCycle, IsKindOf, IsMaximalIn}
use Rattle.mw_poset.specs.Search.{AreMarked}
use Rattle.mw_poset.specs.Tables.{IsSymmetric, IsLeastReached, AreLeastReached, AreOfOneKind, supersorts}
use Rattle.mw_logic.proofs.Members.{member-left}
use Rattle.mw_poset.proofs.Members.{member-all, member-last, member-push, supersorts-member, member-supersorts}
use Rattle.mw_logic.proofs.BelowLaws.{AtOrBelow-trans}
use Rattle.mw_poset.proofs.Chains.{AtOrBelow-turned, SameKind-connected, passed_on, turned_too-member, within-pair}
use Rattle.mw_poset.proofs.Grouping.{increasing-push}

-- a cycle goes by one of the sorts directly above
pub on_cycle : (ps : List (ℕ × ℕ)) (S T : ℕ) → Member T (supersorts ps S) → AtOrBelow ps T S → IsOnCycle ps S
on_cycle ps S T m p = record { next = T; pair = supersorts-member ps S T m; back = p }

pub no_cycle : (ps : List (ℕ × ℕ)) (S : ℕ) → All (λ T. AtOrBelow ps T S → ⊥) (supersorts ps S) → IsOnCycle ps S → ⊥
no_cycle ps S a h = member-all (λ (T : ℕ). AtOrBelow ps T S → ⊥) (supersorts ps S) a h.next (member-supersorts ps S h.next h.pair) h.back

pub cycle-within : (sorts : ℕ) (ps : List (ℕ × ℕ)) → ArePairsOf sorts ps → (S : ℕ) → IsOnCycle ps S → IsSort sorts S
cycle-within sorts ps a S h = (within-pair sorts ps a S h.next h.pair).0

-- the first sorts have the least that they are connected with; what the others are connected with comes later
pub record KindsSoFar (order : SortOrder) (k : ℕ) (kinds : List ℕ) : Type 0 where
  pub size : length kinds ≡ order.sorts
  pub named : (j : ℕ) → j < order.sorts → slice_index kinds j ≢ 0 → IsLeastReached order.pairs (suc j) (slice_index kinds j) × (slice_index kinds j ≤ k)
  pub unnamed : (j : ℕ) → j < order.sorts → slice_index kinds j ≡ 0 → (T : ℕ) → AtOrBelow order.pairs (suc j) T → k < T

-- the next sort has a kind already
pub kinds_passed : (order : SortOrder) (k : ℕ) (kinds : List ℕ) → IsSymmetric order.pairs → k < order.sorts → KindsSoFar order k kinds → slice_index kinds k ≢ 0 → KindsSoFar order (k + 1) kinds
kinds_passed order k kinds turn lk h n = record {
  size = h.size;
  named = λ j l m. let p = h.named j l m in (p.0, let q = p.1 in omega arith);
  unnamed = λ j l e T p. elim (cases_eq T (suc k)) [
    | inl q ↦ absurd (later j l e (subst (λ (U : ℕ). AtOrBelow order.pairs (suc j) U) q p))
    | inr d ↦ let b = h.unnamed j l e T p in omega arith
  ];
}
  where
    later : (j : ℕ) → j < order.sorts → slice_index kinds j ≡ 0 → AtOrBelow order.pairs (suc j) (suc k) → ⊥
    later j l e p =
        let K = h.named k lk n in
        let b = h.unnamed j l e (slice_index kinds k) (AtOrBelow-trans p K.0.reached) in
        let c = K.1 in
        omega arith

-- the next sort has none: it is the least of those that it is connected with, and is named as the kind of each
pub kinds_named : (order : SortOrder) (k : ℕ) (old new : List ℕ) → IsSymmetric order.pairs → k < order.sorts → KindsSoFar order k old → slice_index old k ≡ 0
    → AreMarked order (suc k) old new → length new ≡ length old → KindsSoFar order (k + 1) new
kinds_named order k old new turn lk h z m ln = record {
  size = ln ∙ h.size;
  named = λ j l n. elim (m.others j) [
    | inl q ↦
        let up : AtOrBelow order.pairs (suc k) (suc j) = (m.reached (suc j)).0 q in
        let least : IsLeastReached order.pairs (suc j) (suc k) = record { reached = AtOrBelow-turned turn up; least = λ T p. h.unnamed k lk z T (AtOrBelow-trans up p) } in
        (subst (λ (K : ℕ). IsLeastReached order.pairs (suc j) K) (sym q) least, omega arith)
    | inr q ↦
        let p = h.named j l (λ i. n (q ∙ i)) in
        (subst (λ (K : ℕ). IsLeastReached order.pairs (suc j) K) (sym q) p.0, let b = p.1 in omega arith)
  ];
  unnamed = λ j l e T p. elim (m.others j) [
    | inl q ↦ absurd (omega arith)
    | inr q ↦
        let b = h.unnamed j l (sym q ∙ e) T p in
        elim (cases_eq T (suc k)) [
          | inl s ↦ absurd (marked j e (AtOrBelow-turned turn (subst (λ (U : ℕ). AtOrBelow order.pairs (suc j) U) s p)))
          | inr d ↦ omega arith
        ]
  ];
}
  where
    marked : (j : ℕ) → slice_index new j ≡ 0 → AtOrBelow order.pairs (suc k) (suc j) → ⊥
    marked j e p = let q : slice_index new j ≡ suc k = (m.reached (suc j)).1 p in omega arith

pub kinds_done : (order : SortOrder) (kinds : List ℕ) → KindsSoFar order order.sorts kinds → AreLeastReached order kinds
kinds_done order kinds h = record {
  size = h.size;
  exact = λ k l. elim (cases_eq (slice_index kinds k) 0) [
    | inl e ↦ absurd (let b = h.unnamed k l e (suc k) AtOrBelow.same in omega arith)
    | inr n ↦ (h.named k l n).0
  ];
}

-- a signature with these pairs
abbrev pub some_signature : List (ℕ × ℕ) → Signature
some_signature ps = record { sorts = []; pairs = ps; operators = []; nat = false; qid = false }

-- what is of the kind of a sort that is there is there
pub kind-within : (order : SortOrder) (S T : ℕ) → ArePairsOf order.sorts order.pairs → IsSort order.sorts S → AreOfOneKind order.pairs S T → IsSort order.sorts T
kind-within order S T a s c =
    passed_on (λ (S : ℕ). IsSort order.sorts S)
    (λ A B i x. elim (turned_too-member order.pairs A B i) [ inl j ↦ (within-pair order.sorts order.pairs a A B j).1 | inr j ↦ (within-pair order.sorts order.pairs a B A j).0 ])
    (SameKind-connected order.pairs (some_signature order.pairs) refl (c (some_signature order.pairs) refl)) s

-- two sorts are of one kind where their kinds have one number
pub kinds_agree : (ps : List (ℕ × ℕ)) (S T K : ℕ) → IsKindOf ps S K → IsKindOf ps T K → (sig : Signature) → sig.pairs ≡ ps → SameKind sig S T
kinds_agree ps S T K p q sig e = SameKind-trans (p.same sig e) (SameKind-sym (q.same sig e))

pub kinds_same : (ps : List (ℕ × ℕ)) (sig : Signature) (S T K L : ℕ) → IsKindOf ps S K → IsKindOf ps T L → sig.pairs ≡ ps → SameKind sig S T → K ≡ L
kinds_same ps sig S T K L p q e s =
    let a = p.least sig e L (SameKind-trans s (q.same sig e)) in
    let b = q.least sig e K (SameKind-trans (SameKind-sym s) (p.same sig e)) in
    omega arith

-- a sort of the kind with nothing directly above it is maximal
pub is_maximal : (ps : List (ℕ × ℕ)) (S T : ℕ) → AreOfOneKind ps S T → supersorts ps T ≡ [] → IsMaximalIn ps S T
is_maximal ps S T k e = record { same = k; none_above = λ U c. top U c }
  where
    top : (U : ℕ) → AtOrBelow ps T U → U ≡ T
    top U AtOrBelow.same = refl
    top U (AtOrBelow.above {T = V} m c) = absurd (subst (λ (l : List ℕ). Member V l) e (member-supersorts ps T V m))

-- and only then, where there is no cycle
pub maximal-top : (ps : List (ℕ × ℕ)) (S T : ℕ) → ((U : ℕ) → IsOnCycle ps U → ⊥) → IsMaximalIn ps S T → (l : List ℕ) → supersorts ps T ≡ l → length l ≡ 0
maximal-top ps S T acyclic m [] e = refl
maximal-top ps S T acyclic m (U ∷ l) e =
    let pair : Member (T, U) ps = supersorts-member ps T U (subst (λ (l : List ℕ). Member U l) (sym e) (inl refl)) in
    let q : U ≡ T = m.none_above U (AtOrBelow.above pair AtOrBelow.same) in
    absurd (acyclic T (record { next = U; pair = pair; back = subst (λ (V : ℕ). AtOrBelow ps U V) q AtOrBelow.same }))

-- the maximal sorts among the first ones of a kind, in order
pub record MaximalSoFar (ps : List (ℕ × ℕ)) (kind i : ℕ) (group found : List ℕ) : Type 0 where
  pub listed : (T : ℕ) → Member T found ↔ (Member T (take i group) × IsMaximalIn ps kind T)
  pub below : (T : ℕ) → Member T found → i < length group → T < slice_index group i
  pub in_order : IsStrictlyIncreasing found

pub maximal_found : (ps : List (ℕ × ℕ)) (kind i : ℕ) (group found : List ℕ) → IsStrictlyIncreasing group → i < length group → MaximalSoFar ps kind i group found
    → IsMaximalIn ps kind (slice_index group i) → MaximalSoFar ps kind (i + 1) group (found ++ slice_index group i ∷ [])
maximal_found ps kind i group found up l h m = record {
  listed = λ T. (
    (λ w. elim (member-push T S found w) [
      | inl o ↦ let p = (h.listed T).0 o in (more T (member-left T (take i group) (S ∷ []) p.0), p.1)
      | inr e ↦ (more T (subst (λ (U : ℕ). Member U (take i group ++ S ∷ [])) e (member-last S (take i group))), subst (λ (U : ℕ). IsMaximalIn ps kind U) e m)
    ]),
    (λ p. elim (member-push T S (take i group) (subst (λ (xs : List ℕ). Member T xs) (take_more group i 0 l) p.0)) [
      | inl o ↦ member-left T found (S ∷ []) ((h.listed T).1 (o, p.1))
      | inr e ↦ subst (λ (U : ℕ). Member U (found ++ S ∷ [])) e (member-last S found)
    ]),
  );
  below = λ T w n. let next = up i n in elim (member-push T S found w) [ inl o ↦ let b = h.below T o l in omega arith | inr e ↦ omega arith ];
  in_order = increasing-push found S h.in_order (λ T o. h.below T o l);
}
  where
    S : ℕ
    S = slice_index group i

    more : (T : ℕ) → Member T (take i group ++ S ∷ []) → Member T (take (i + 1) group)
    more T w = subst (λ (xs : List ℕ). Member T xs) (sym (take_more group i 0 l)) w

pub maximal_passed : (ps : List (ℕ × ℕ)) (kind i : ℕ) (group found : List ℕ) → IsStrictlyIncreasing group → i < length group → MaximalSoFar ps kind i group found
    → (IsMaximalIn ps kind (slice_index group i) → ⊥) → MaximalSoFar ps kind (i + 1) group found
maximal_passed ps kind i group found up l h n = record {
  listed = λ T. (
    (λ w. let p = (h.listed T).0 w in (subst (λ (xs : List ℕ). Member T xs) (sym (take_more group i 0 l)) (member-left T (take i group) (slice_index group i ∷ []) p.0), p.1)),
    (λ p. elim (member-push T (slice_index group i) (take i group) (subst (λ (xs : List ℕ). Member T xs) (take_more group i 0 l) p.0)) [
      | inl o ↦ (h.listed T).1 (o, p.1)
      | inr e ↦ absurd (n (subst (λ (U : ℕ). IsMaximalIn ps kind U) (sym e) p.1))
    ]),
  );
  below = λ T w k. let next = up i k in let b = h.below T w l in omega arith;
  in_order = h.in_order;
}
