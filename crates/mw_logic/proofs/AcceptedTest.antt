-- The test for an accepted signature passes exactly on accepted signatures.
use Rattle.std.specs.Prelude.{◌≡◌, ◌↔◌, ◌⊎◌, ℕ, zero, suc, ◌+◌, pred, ◌^◌, List, [], ◌∷◌, Bool, true, false, not, ◌&&◌, ◌||◌, nat_eq, nat_lt, refl, Option, Some, None, IsTrue, slice_get, codes}
use Rattle.std.proofs.Common.{inl, inr, arith, ap, subst, sym, ◌∙◌}
use Rattle.std.proofs.lemmas.Bool.{true≢false, false≢true, and_parts, and_from, or_cases, or_left, or_right, eqb-true, eq-eqb, ltb-true, lt-ltb, not_from_false, false_from_ne_true}
use Rattle.mw_logic.specs.Term.{nil, constant}
use Rattle.mw_logic.specs.Signature.{Signature, Declaration, Operator, Identity, constant_of, numeral_of, identity_term, at_number, IsOperator, IsSortNamed, SameKind, Member, HasKind, of_numeral, of_operator, IsRawTerm, a_numeral, an_operator, AreRawTerms, end}
use Rattle.mw_logic.specs.Kinds.{kind_number, same_name, some_sort}
use Rattle.mw_logic.specs.Accepted.{IsAccepted, are_two, takes_nothing, agree, is_same_kind, is_member, is_constant_of_kind, is_identity_of_kind, is_accepted_identity, is_accepted_operator, are_accepted_operators, is_named_among, names_differ, is_accepted, number_of_sort, IsWellSorted, are_of_kind, are_well_sorted_operators, are_of_nat, is_well_sorted}
use Rattle.mw_logic.proofs.KindLaws.{kind_number-same, kind_number-sound}
use Rattle.mw_logic.proofs.Successor.{same_name-true, same_name-refl, some_sort-from, some_sort-true}

-- one test implies another
implied : (a b : Bool) → (not a || b) ≡ true → a ≡ true → b ≡ true
implied true b h k = h
implied false b h k = absurd (false≢true k)

implied_from : (a b : Bool) → (a ≡ true → b ≡ true) → (not a || b) ≡ true
implied_from true b h = h refl
implied_from false b h = refl

are_two-true : (test : ℕ → ℕ → Bool) (Ks : List ℕ) → are_two test Ks ≡ true → (K L : ℕ) × (Ks ≡ K ∷ L ∷ []) × (test K L ≡ true)
are_two-true test [] h = cc
are_two-true test (K ∷ []) h = cc
are_two-true test (K ∷ L ∷ []) h = (K, L, refl, h)
are_two-true test (K ∷ L ∷ M ∷ Ks) h = cc

takes_nothing-true : (Ks : List ℕ) → takes_nothing Ks ≡ true → Ks ≡ []
takes_nothing-true [] h = refl
takes_nothing-true (K ∷ Ks) h = cc

member-true : (n : ℕ) (ms : List ℕ) → is_member n ms ≡ true → Member n ms
member-true n [] h = cc
member-true n (m ∷ ms) h = by_case (member-true n ms) (or_cases _ _ h)
  where
    by_case : (is_member n ms ≡ true → Member n ms) → (nat_eq m n ≡ true) ⊎ (is_member n ms ≡ true) → Member n (m ∷ ms)
    by_case rest (inl e) = inl (eqb-true _ _ e)
    by_case rest (inr k) = inr (rest k)

member-from : (n : ℕ) (ms : List ℕ) → Member n ms → is_member n ms ≡ true
member-from n [] m = elim m [ ]
member-from n (m ∷ ms) (inl e) = or_left _ _ (eq-eqb m n e)
member-from n (m ∷ ms) (inr k) = or_right _ _ (member-from n ms k)

agree-true : (a b : Bool) → agree a b ≡ true → a ≡ b
agree-true true true h = refl
agree-true true false h = cc
agree-true false true h = cc
agree-true false false h = refl

agree-from : (a b : Bool) → (a ≡ true → b ≡ true) → (b ≡ true → a ≡ true) → agree a b ≡ true
agree-from true b h k = h refl
agree-from false true h k = absurd (false≢true (k refl))
agree-from false false h k = refl

-- a name among others stands at some place
among-true : (name : List ℕ) (ns : List (List ℕ)) → is_named_among name ns ≡ true → (j : ℕ) × (slice_get ns j ≡ Some name)
among-true name [] h = cc
among-true name (n ∷ ns) h = by_case (among-true name ns) (or_cases _ _ h)
  where
    by_case : (is_named_among name ns ≡ true → (j : ℕ) × (slice_get ns j ≡ Some name)) → (same_name n name ≡ true) ⊎ (is_named_among name ns ≡ true) → (j : ℕ) × (slice_get (n ∷ ns) j ≡ Some name)
    by_case rest (inl e) = (zero, ap Some (same_name-true n name e))
    by_case rest (inr k) = let (j, e) = rest k in (suc j, e)

some_inj : {X : Type 0} {x y : X} → Some x ≡ Some y → x ≡ y
some_inj e = cc

among-from : (name : List ℕ) (ns : List (List ℕ)) (j : ℕ) → slice_get ns j ≡ Some name → is_named_among name ns ≡ true
among-from name [] j e = cc
among-from name (n ∷ ns) zero e = or_left _ _ (subst (λ m. same_name n m ≡ true) (some_inj e) (same_name-refl n))
among-from name (n ∷ ns) (suc j) e = or_right _ _ (among-from name ns j e)

no_second : (b : Bool) → not b ≡ true → b ≡ true → ⊥
no_second true p q = true≢false (sym p)
no_second false p q = false≢true q

differ-true : (ns : List (List ℕ)) → names_differ ns ≡ true → (i j : ℕ) (name : List ℕ) → slice_get ns i ≡ Some name → slice_get ns j ≡ Some name → i ≡ j
differ-true [] h i j name e k = cc
differ-true (n ∷ ns) h zero zero name e k = refl
differ-true (n ∷ ns) h zero (suc j) name e k = absurd (no_second (is_named_among n ns) (and_parts _ _ h).0 (among-from n ns j (k ∙ sym e)))
differ-true (n ∷ ns) h (suc i) zero name e k = absurd (no_second (is_named_among n ns) (and_parts _ _ h).0 (among-from n ns i (e ∙ sym k)))
differ-true (n ∷ ns) h (suc i) (suc j) name e k = ap suc (differ-true ns (and_parts _ _ h).1 i j name e k)

zero_suc : {j : ℕ} → zero ≡ suc j → ⊥
zero_suc e = omega arith

differ-from : (ns : List (List ℕ)) → ((i j : ℕ) (name : List ℕ) → slice_get ns i ≡ Some name → slice_get ns j ≡ Some name → i ≡ j) → names_differ ns ≡ true
differ-from [] h = refl
differ-from (n ∷ ns) h =
    and_from _ _ (not_from_false _ (false_from_ne_true (is_named_among n ns) (λ m. let (j, e) = among-true n ns m in zero_suc (h zero (suc j) n refl e))))
    (differ-from ns (λ i j name e k. ap pred (h (suc i) (suc j) name e k)))

all-true : (sig : Signature) (os : List Operator) → are_accepted_operators sig os ≡ true → (j : ℕ) (o : Operator) → slice_get os j ≡ Some o → is_accepted_operator sig o ≡ true
all-true sig [] h j o e = cc
all-true sig (p ∷ ps) h zero o e = subst (λ o. is_accepted_operator sig o ≡ true) (some_inj e) (and_parts _ _ h).0
all-true sig (p ∷ ps) h (suc j) o e = all-true sig ps (and_parts _ _ h).1 j o e

all-from : (sig : Signature) (os : List Operator) → ((j : ℕ) (o : Operator) → slice_get os j ≡ Some o → is_accepted_operator sig o ≡ true) → are_accepted_operators sig os ≡ true
all-from sig [] h = refl
all-from sig (p ∷ ps) h = and_from _ _ (h zero p refl) (all-from sig ps (λ j o e. h (suc j) o e))

module _ (sig : Signature) where
  kind-true : (S T : ℕ) → is_same_kind sig S T ≡ true → SameKind sig S T
  kind-true S T h = kind_number-sound sig S T (eqb-true _ _ h)

  kind-from : (S T : ℕ) → SameKind sig S T → is_same_kind sig S T ≡ true
  kind-from S T k = eq-eqb _ _ (kind_number-same k)

  identity-true : (K : ℕ) (i : Identity) → is_identity_of_kind sig K i ≡ true → IsRawTerm sig (identity_term i) × HasKind sig (identity_term i) K
  identity-true K (constant_of c) h = found (at_number sig.operators c) refl h
    where
      found : (x : Option Operator) → at_number sig.operators c ≡ x → is_constant_of_kind sig K x ≡ true → IsRawTerm sig (constant c) × HasKind sig (constant c) K
      found None e h = cc
      found (Some o) e h =
          let p : _ = and_parts _ _ h in
          (an_operator o e (subst (λ Ks. AreRawTerms sig nil Ks) (sym (takes_nothing-true o.args p.0)) end), of_operator o e (kind-true o.result K p.1))
  identity-true K (numeral_of n) h =
      let p : (sig.nat ≡ true) × ((nat_lt n (2 ^ 128) && some_sort sig (codes "Nat") (kind_number sig K) 1 sig.sorts) ≡ true) = and_parts _ _ h in
      let q : (nat_lt n (2 ^ 128) ≡ true) × (some_sort sig (codes "Nat") (kind_number sig K) 1 sig.sorts ≡ true) = and_parts _ _ p.1 in
      let (j, e, k) = some_sort-true sig (codes "Nat") (kind_number sig K) 1 sig.sorts q.1 in
      (a_numeral p.0 (ltb-true _ _ q.0), of_numeral (suc j) e p.0 (kind_number-sound sig (suc j) K (ap (kind_number sig) (omega arith) ∙ k)))

  identity-from : (K : ℕ) (i : Identity) → IsRawTerm sig (identity_term i) → HasKind sig (identity_term i) K → is_identity_of_kind sig K i ≡ true
  identity-from K (constant_of c) (an_operator o e args) (of_operator p d k) = rw e (and_from _ _ (nothing o.args args) (subst (λ (p : Operator). is_same_kind sig p.result K ≡ true) (some_inj (sym d ∙ e)) (kind-from p.result K k)))
    where
      nothing : (Ks : List ℕ) → AreRawTerms sig nil Ks → takes_nothing Ks ≡ true
      nothing [] a = refl
      nothing (K ∷ Ks) a = elim a [ ]
  identity-from K (numeral_of n) (a_numeral b l) (of_numeral S named c k) = and_from _ _ b (and_from _ _ (lt-ltb n (2 ^ 128) l) (by_number S named (kind_number-same k)))
    where
      by_number : (S : ℕ) → IsSortNamed sig S (codes "Nat") → kind_number sig S ≡ kind_number sig K → some_sort sig (codes "Nat") (kind_number sig K) 1 sig.sorts ≡ true
      by_number zero e k = cc
      by_number (suc j) e k = some_sort-from sig (codes "Nat") (kind_number sig K) 1 sig.sorts j e (ap (kind_number sig) (omega arith) ∙ k)

  -- the four conditions of one operator
  abbrev Four : Operator → Type 0
  Four o =
      ((not o.assoc || are_two (λ K L. is_same_kind sig K o.result && is_same_kind sig L o.result) o.args) ≡ true)
      × ((not o.comm || are_two (is_same_kind sig) o.args) ≡ true) × (is_accepted_identity sig o o.identity ≡ true)
      × ((not (o.assoc || o.comm) || agree (is_member 1 o.frozen) (is_member 2 o.frozen)) ≡ true)

  four : (o : Operator) → is_accepted_operator sig o ≡ true → Four o
  four o h = let p : _ = and_parts _ _ h in let q : _ = and_parts _ _ p.1 in let r : _ = and_parts _ _ q.1 in (p.0, q.0, r.0, r.1)

  module _ (h : is_accepted sig ≡ true) where
    operator_accepted : (f : ℕ) (o : Operator) → IsOperator sig f o → Four o
    operator_accepted zero o e = cc
    operator_accepted (suc j) o e = four o (all-true sig sig.operators (and_parts _ _ h).0 j o e)

    assoc_accepted : (o : Operator) → Four o → IsTrue o.assoc → (K L : ℕ) × (o.args ≡ K ∷ L ∷ []) × SameKind sig K o.result × SameKind sig L o.result
    assoc_accepted o p a =
        let (K, L, e, t) = are_two-true (λ K L. is_same_kind sig K o.result && is_same_kind sig L o.result) o.args (implied _ _ p.0 a) in
        let q : _ = and_parts (is_same_kind sig K o.result) (is_same_kind sig L o.result) t in
        (K, L, e, kind-true K o.result q.0, kind-true L o.result q.1)

    comm_accepted : (o : Operator) → Four o → IsTrue o.comm → (K L : ℕ) × (o.args ≡ K ∷ L ∷ []) × SameKind sig K L
    comm_accepted o p c = let (K, L, e, t) = are_two-true (is_same_kind sig) o.args (implied _ _ p.1 c) in (K, L, e, kind-true K L t)

    identity_accepted : (o : Operator) (i : Identity) → Four o → o.identity ≡ Some i → IsTrue o.assoc × IsRawTerm sig (identity_term i) × HasKind sig (identity_term i) o.result
    identity_accepted o i p e = let q : (o.assoc ≡ true) × (is_identity_of_kind sig o.result i ≡ true) = and_parts _ _ (rw e at p.2) in let r : _ = identity-true o.result i q.1 in (q.0, r.0, r.1)

    frozen_accepted : (o : Operator) → Four o → IsTrue (o.assoc || o.comm) → (Member 1 o.frozen ↔ Member 2 o.frozen)
    frozen_accepted o p a =
        let e : is_member 1 o.frozen ≡ is_member 2 o.frozen = agree-true _ _ (implied _ _ p.3 a) in
        (λ m. member-true 2 o.frozen (sym e ∙ member-from 1 o.frozen m), λ m. member-true 1 o.frozen (e ∙ member-from 2 o.frozen m))

    sorts_accepted : (S T : ℕ) (name : List ℕ) → IsSortNamed sig S name → IsSortNamed sig T name → S ≡ T
    sorts_accepted zero T name e k = cc
    sorts_accepted (suc i) zero name e k = cc
    sorts_accepted (suc i) (suc j) name e k = ap suc (differ-true sig.sorts (and_parts _ _ h).1 i j name e k)

  -- what passes the test is accepted
  pub is_accepted-sound : is_accepted sig ≡ true → IsAccepted sig
  is_accepted-sound h = record {
    assoc = λ f o e a. assoc_accepted h o (operator_accepted h f o e) a;
    comm = λ f o e c. comm_accepted h o (operator_accepted h f o e) c;
    identity = λ f o i e n. identity_accepted h o i (operator_accepted h f o e) n;
    frozen = λ f o e a. frozen_accepted h o (operator_accepted h f o e) a;
    sorts_differ = sorts_accepted h;
  }

  module _ (ok : IsAccepted sig) where
    one_passes : (j : ℕ) (o : Operator) → slice_get sig.operators j ≡ Some o → is_accepted_operator sig o ≡ true
    one_passes j o e = and_from _ _ of_assoc (and_from _ _ of_comm (and_from _ _ (of_identity o.identity refl) of_frozen))
      where
        of_assoc : (not o.assoc || are_two (λ K L. is_same_kind sig K o.result && is_same_kind sig L o.result) o.args) ≡ true
        of_assoc = implied_from _ _ (λ a. let (K, L, k, p, q) = ok.assoc (suc j) o e a in rw k (and_from _ _ (kind-from K o.result p) (kind-from L o.result q)))

        of_comm : (not o.comm || are_two (is_same_kind sig) o.args) ≡ true
        of_comm = implied_from _ _ (λ c. let (K, L, k, p) = ok.comm (suc j) o e c in rw k (kind-from K L p))

        of_identity : (x : Option Identity) → o.identity ≡ x → is_accepted_identity sig o x ≡ true
        of_identity None n = refl
        of_identity (Some i) n = let (a, r, k) = ok.identity (suc j) o i e n in and_from _ _ a (identity-from o.result i r k)

        of_frozen : (not (o.assoc || o.comm) || agree (is_member 1 o.frozen) (is_member 2 o.frozen)) ≡ true
        of_frozen =
            implied_from _ _ (λ a. let p : (Member 1 o.frozen ↔ Member 2 o.frozen) = ok.frozen (suc j) o e a in
            agree-from _ _ (λ m. member-from 2 o.frozen (p.0 (member-true 1 o.frozen m))) (λ m. member-from 1 o.frozen (p.1 (member-true 2 o.frozen m))))

    -- an accepted signature passes
    pub is_accepted-complete : is_accepted sig ≡ true
    is_accepted-complete = and_from _ _ (all-from sig sig.operators one_passes) (differ-from sig.sorts (λ i j name e k. ap pred (ok.sorts_differ (suc i) (suc j) name e k)))

-- what passes the test has its declared sorts in their kinds
of_kind_at : (sig : Signature) (K : ℕ) (ds : List Declaration) → are_of_kind sig K ds ≡ true → (d : Declaration) → Member d ds → SameKind sig K (number_of_sort d.result)
of_kind_at sig K [] h d m = elim m [ ]
of_kind_at sig K (e ∷ ds) h d (inl k) = subst (λ (d : Declaration). SameKind sig K (number_of_sort d.result)) k (kind-true sig K _ (and_parts _ _ h).0)
of_kind_at sig K (e ∷ ds) h d (inr m) = of_kind_at sig K ds (and_parts _ _ h).1 d m

well_sorted_at : (sig : Signature) (os : List Operator) → are_well_sorted_operators sig os ≡ true → (j : ℕ) (o : Operator) → slice_get os j ≡ Some o → are_of_kind sig o.result o.declarations ≡ true
well_sorted_at sig [] h j o e = cc
well_sorted_at sig (p ∷ ps) h zero o e = subst (λ (o : Operator). are_of_kind sig o.result o.declarations ≡ true) (some_inj e) (and_parts _ _ h).0
well_sorted_at sig (p ∷ ps) h (suc j) o e = well_sorted_at sig ps (and_parts _ _ h).1 j o e

of_nat_at : (sig : Signature) (name : List ℕ) (i : ℕ) (ns : List (List ℕ)) → are_of_nat sig name i ns ≡ true → (j : ℕ) → slice_get ns j ≡ Some name → some_sort sig (codes "Nat") (kind_number sig (i + j)) 1 sig.sorts ≡ true
of_nat_at sig name i [] h j e = cc
of_nat_at sig name i (n ∷ ns) h zero e =
    subst (λ k. some_sort sig (codes "Nat") (kind_number sig k) 1 sig.sorts ≡ true) (omega arith) (implied _ _ (and_parts _ _ h).0 (subst (λ m. same_name n m ≡ true) (some_inj e) (same_name-refl n)))
of_nat_at sig name i (n ∷ ns) h (suc j) e = subst (λ k. some_sort sig (codes "Nat") (kind_number sig k) 1 sig.sorts ≡ true) (omega arith) (of_nat_at sig name (suc i) ns (and_parts _ _ h).1 j e)

pub is_well_sorted-sound : (sig : Signature) → is_well_sorted sig ≡ true → IsWellSorted sig
is_well_sorted-sound sig h = record { results = results; zero = λ S n e. of_nat (codes "Zero") (and_parts _ _ (numbers n)).0 S e; nonzero = λ S n e. of_nat (codes "NzNat") (and_parts _ _ (numbers n)).1 S e }
  where
    results : (f : ℕ) (o : Operator) (d : Declaration) → IsOperator sig f o → Member d o.declarations → SameKind sig o.result (number_of_sort d.result)
    results zero o d e m = cc
    results (suc j) o d e m = of_kind_at sig o.result o.declarations (well_sorted_at sig sig.operators (and_parts _ _ h).0 j o e) d m

    numbers : IsTrue sig.nat → (are_of_nat sig (codes "Zero") 1 sig.sorts && are_of_nat sig (codes "NzNat") 1 sig.sorts) ≡ true
    numbers n = implied _ _ (and_parts (are_well_sorted_operators sig sig.operators) (not sig.nat || (are_of_nat sig (codes "Zero") 1 sig.sorts && are_of_nat sig (codes "NzNat") 1 sig.sorts)) h).1 n

    of_nat : (name : List ℕ) → are_of_nat sig name 1 sig.sorts ≡ true → (S : ℕ) → IsSortNamed sig S name → (N : ℕ) × IsSortNamed sig N (codes "Nat") × SameKind sig N S
    of_nat name k zero e = cc
    of_nat name k (suc j) e =
        let (i, m, q) = some_sort-true sig (codes "Nat") (kind_number sig (1 + j)) 1 sig.sorts (of_nat_at sig name 1 sig.sorts k j e) in
        (suc i, m, kind_number-sound sig (suc i) (suc j) (ap (kind_number sig) (omega arith) ∙ q ∙ ap (kind_number sig) (omega arith)))
