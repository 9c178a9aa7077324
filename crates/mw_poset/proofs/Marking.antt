-- Marks of sorts, and the search: what it has marked is reached, and what a marked sort leads to is marked or still waits for its turn.
use Rattle.std.specs.Prelude.{Bool, All, cond, nat_eq}
use Rattle.std.proofs.Common.{◌≡◌, ◌≢◌, ◌⊎◌, ℕ, zero, suc, ◌+◌, ◌<◌, ◌≤◌, List, [], ◌∷◌, ◌++◌, length, refl, ap, sym, ◌∙◌, inl, inr, arith, get_or, set, subst, get_or-set_same, get_or-set_other, length-append, length-set}
use Rattle.std.proofs.lemmas.List.Sums.{sum_by-set}
use Rattle.std.proofs.lemmas.Bool.{cases_eq, eq-eqb, ne_eqb}
use Rattle.mw_logic.specs.Signature.{Member}
use Rattle.mw_logic.specs.Sorts.{AtOrBelow}
use Rattle.mw_poset.specs.SortOrder.{SortOrder}
use Rattle.mw_poset.specs.Tables.{supersorts}
use Rattle.mw_poset.specs.Order.{IsSort}
use Rattle.mw_poset.specs.Search.{IsMarked, IsWrittenOver, Marks, AreMarked, unmarked}
use Rattle.mw_logic.proofs.Members.{member-left}
use Rattle.mw_poset.proofs.Members.{member-last, member-push, supersorts-member, member-supersorts}
use Rattle.mw_poset.proofs.Chains.{AtOrBelow-then, passed_on}

-- no place past the end has a mark
inside : (mark : ℕ) (marks : List ℕ) (k : ℕ) → 1 ≤ mark → get_or marks k 0 ≡ mark → k < length marks
inside mark [] k h e = absurd (omega arith)
inside mark (m ∷ marks) zero h e = omega arith
inside mark (m ∷ marks) (suc k) h e = let l = inside mark marks k h e in omega arith

pub marked-sort : (mark : ℕ) (marks : List ℕ) (S : ℕ) → 1 ≤ mark → IsMarked mark marks S → IsSort (length marks) S
marked-sort mark marks zero h m = absurd m
marked-sort mark marks (suc k) h m = let l = inside mark marks k h m in (omega arith, omega arith)

-- a new mark
pub marked-set : (mark : ℕ) (marks : List ℕ) (k : ℕ) → k < length marks → IsMarked mark (set marks k mark) (suc k)
marked-set mark marks k h = get_or-set_same marks k mark 0 h

pub marked-kept : (mark : ℕ) (marks : List ℕ) (k S : ℕ) → k < length marks → IsMarked mark marks S → IsMarked mark (set marks k mark) S
marked-kept mark marks k zero h m = absurd m
marked-kept mark marks k (suc j) h m = elim (cases_eq j k) [
  | inl e ↦ subst (λ (i : ℕ). get_or (set marks k mark) i 0 ≡ mark) (sym e) (marked-set mark marks k h)
  | inr n ↦ get_or-set_other marks k j mark 0 n ∙ m
]

set-marked : (mark : ℕ) (marks : List ℕ) (k S : ℕ) → IsMarked mark (set marks k mark) S → IsMarked mark marks S ⊎ (suc k ≡ S)
set-marked mark marks k zero m = absurd m
set-marked mark marks k (suc j) m = elim (cases_eq j k) [
  | inl e ↦ inr (ap suc (sym e))
  | inr n ↦ inl (sym (get_or-set_other marks k j mark 0 n) ∙ m)
]

-- a mark is written over what stood there
pub over-set : (mark : ℕ) (old now : List ℕ) (k : ℕ) → k < length now → IsWrittenOver mark old now → IsWrittenOver mark old (set now k mark)
over-set mark old now k h o j = elim (cases_eq j k) [
  | inl e ↦ inl (ap (λ (i : ℕ). get_or (set now k mark) i 0) e ∙ get_or-set_same now k mark 0 h)
  | inr n ↦ elim (o j) [
    | inl m ↦ inl (get_or-set_other now k j mark 0 n ∙ m)
    | inr s ↦ inr (get_or-set_other now k j mark 0 n ∙ s)
  ]
]

pub over-then : (mark : ℕ) (old now new : List ℕ) → IsWrittenOver mark old now → IsWrittenOver mark now new → IsWrittenOver mark old new
over-then mark old now new o p j = elim (p j) [
  | inl m ↦ inl m
  | inr s ↦ elim (o j) [ inl m ↦ inl (s ∙ m) | inr t ↦ inr (s ∙ t) ]
]

-- one more that is marked already
pub marks_marked : (mark : ℕ) (xs old new waited waiting : List ℕ) (S : ℕ) → Marks mark xs old new waited waiting → IsMarked mark new S → Marks mark (xs ++ S ∷ []) old new waited waiting
marks_marked mark xs old new waited waiting S h m = record {
  kept = h.kept;
  all = λ T k. elim (member-push T S xs k) [ inl i ↦ h.all T i | inr e ↦ subst (λ (U : ℕ). IsMarked mark new U) e m ];
  only = λ T k. elim (h.only T k) [ inl i ↦ inl i | inr w ↦ inr (member-left T xs (S ∷ []) w.0, w.1) ];
  others = h.others;
  still = h.still;
  waits = λ T k. elim (h.waits T k) [ inl i ↦ inl i | inr i ↦ inr (member-left T xs (S ∷ []) i) ];
  count = h.count;
}

one_marked : (mark : ℕ) (marks : List ℕ) (k : ℕ) → k < length marks → get_or marks k 0 ≢ mark → unmarked mark (set marks k mark) + 1 ≡ unmarked mark marks
one_marked mark marks k h n =
    let s : unmarked mark (set marks k mark) + cond (nat_eq (get_or marks k 0) mark) 0 1 ≡ unmarked mark marks + cond (nat_eq mark mark) 0 1 =
    sum_by-set (λ (m : ℕ). cond (nat_eq m mark) 0 1) marks k mark 0 h in
    let t : unmarked mark (set marks k mark) + 1 ≡ unmarked mark marks + cond (nat_eq mark mark) 0 1 =
    subst (λ (b : Bool). unmarked mark (set marks k mark) + cond b 0 1 ≡ unmarked mark marks + cond (nat_eq mark mark) 0 1) (ne_eqb (get_or marks k 0) mark n) s in
    let u : unmarked mark (set marks k mark) + 1 ≡ unmarked mark marks + 0 =
    subst (λ (b : Bool). unmarked mark (set marks k mark) + 1 ≡ unmarked mark marks + cond b 0 1) (eq-eqb mark mark refl) t in
    omega arith

-- one more that is new
pub marks_new : (mark : ℕ) (xs old new waited waiting : List ℕ) (k : ℕ) → Marks mark xs old new waited waiting → k < length new → get_or new k 0 ≢ mark
    → Marks mark (xs ++ suc k ∷ []) old (set new k mark) waited (waiting ++ suc k ∷ [])
marks_new mark xs old new waited waiting k h l n = record {
  kept = λ T m. marked-kept mark new k T l (h.kept T m);
  all = λ T m. elim (member-push T (suc k) xs m) [ inl i ↦ marked-kept mark new k T l (h.all T i) | inr q ↦ subst (λ (U : ℕ). IsMarked mark (set new k mark) U) q (marked-set mark new k l) ];
  only = λ T m. elim (set-marked mark new k T m) [
    | inl i ↦ elim (h.only T i) [ inl o ↦ inl o | inr w ↦ inr (member-left T xs (suc k ∷ []) w.0, member-left T waiting (suc k ∷ []) w.1) ]
    | inr q ↦ inr (subst (λ (U : ℕ). Member U (xs ++ suc k ∷ [])) q (member-last (suc k) xs), subst (λ (U : ℕ). Member U (waiting ++ suc k ∷ [])) q (member-last (suc k) waiting))
  ];
  others = over-set mark old new k l h.others;
  still = λ T m. member-left T waiting (suc k ∷ []) (h.still T m);
  waits = λ T m. elim (member-push T (suc k) waiting m) [
    | inl i ↦ elim (h.waits T i) [ inl o ↦ inl o | inr o ↦ inr (member-left T xs (suc k ∷ []) o) ]
    | inr q ↦ inr (subst (λ (U : ℕ). Member U (xs ++ suc k ∷ [])) q (member-last (suc k) xs))
  ];
  count = let one = one_marked mark new k l n in let c = h.count in let s = length-append waiting (suc k ∷ []) in omega arith;
}

-- a search in hand
pub record Search (order : SortOrder) (from : ℕ) (old marks waiting : List ℕ) : Type 0 where
  pub size : length marks ≡ order.sorts
  pub sound : (S : ℕ) → IsMarked from marks S → AtOrBelow order.pairs from S
  pub start : IsMarked from marks from
  pub closed : (S T : ℕ) → IsMarked from marks S → Member (S, T) order.pairs → IsMarked from marks T ⊎ Member S waiting
  pub waits : (S : ℕ) → Member S waiting → IsMarked from marks S
  pub others : IsWrittenOver from old marks

no_mark : (mark : ℕ) (marks : List ℕ) (S : ℕ) → 1 ≤ mark → All (λ m. m ≢ mark) marks → IsMarked mark marks S → ⊥
no_mark mark marks zero h a m = m
no_mark mark marks (suc k) h a m = a k 0 (inside mark marks k h m) m

-- only the start is marked, and waits
pub search_begun : (order : SortOrder) (k : ℕ) (marks : List ℕ) → k < order.sorts → length marks ≡ order.sorts → All (λ m. m ≢ suc k) marks → Search order (suc k) marks (set marks k (suc k)) (suc k ∷ [])
search_begun order k marks h n a = record {
  size = length-set marks k (suc k) ∙ n;
  sound = λ S m. subst (λ (T : ℕ). AtOrBelow order.pairs (suc k) T) (only_start S m) AtOrBelow.same;
  start = start;
  closed = λ S T m p. inr (inl (only_start S m));
  waits = λ S w. elim w [ inl q ↦ subst (λ (T : ℕ). IsMarked (suc k) (set marks k (suc k)) T) q start | inr f ↦ absurd f ];
  others = over-set (suc k) marks marks k (omega arith) (λ j. inr refl);
}
  where
    start : IsMarked (suc k) (set marks k (suc k)) (suc k)
    start = marked-set (suc k) marks k (omega arith)

    only_start : (S : ℕ) → IsMarked (suc k) (set marks k (suc k)) S → suc k ≡ S
    only_start S m = elim (set-marked (suc k) marks k S m) [ inl i ↦ absurd (no_mark (suc k) marks S (omega arith) a i) | inr q ↦ q ]

-- one that waited has had its turn
pub search_step : (order : SortOrder) (from S : ℕ) (old marks marks' waiting waiting' : List ℕ) → Search order from old marks (waiting ++ S ∷ []) → Marks from (supersorts order.pairs S) marks marks' waiting waiting'
    → length marks' ≡ length marks → Search order from old marks' waiting'
search_step order from S old marks marks' waiting waiting' h m l = record {
  size = l ∙ h.size;
  sound = λ T k. elim (m.only T k) [ inl o ↦ h.sound T o | inr w ↦ AtOrBelow-then (h.sound S (h.waits S (member-last S waiting))) (supersorts-member order.pairs S T w.0) ];
  start = m.kept from h.start;
  closed = λ A B k p. elim (m.only A k) [
    | inl o ↦ elim (h.closed A B o p) [
      | inl b ↦ inl (m.kept B b)
      | inr w ↦ elim (member-push A S waiting w) [
        | inl i ↦ inr (m.still A i)
        | inr e ↦ inl (m.all B (member-supersorts order.pairs S B (subst (λ (U : ℕ). Member (U, B) order.pairs) (sym e) p)))
      ]
    ]
    | inr w ↦ inr w.1
  ];
  waits = λ T w. elim (m.waits T w) [ inl i ↦ m.kept T (h.waits T (member-left T waiting (S ∷ []) i)) | inr i ↦ m.all T i ];
  others = over-then from old marks marks' h.others m.others;
}

-- nothing waits any more
pub search_done : (order : SortOrder) (from : ℕ) (old marks : List ℕ) → Search order from old marks [] → AreMarked order from old marks
search_done order from old marks h = record {
  reached = λ T. (h.sound T, λ p. passed_on (λ (S : ℕ). IsMarked from marks S) (λ A B m x. elim (h.closed A B x m) [ inl k ↦ k | inr f ↦ absurd f ]) p h.start);
  others = h.others;
}
