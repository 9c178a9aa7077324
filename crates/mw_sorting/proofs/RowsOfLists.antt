-- Worked rows. LIST has a sort S, constants mt and a of it, and an operator on S with assoc and id: mt: it is
-- preregular modulo its axioms, and a a has the least sort S. PART has a sort E, a constant e of it, and an operator
-- from E and [E] to E with assoc and id: e: it isn't, since beside e a term without a sort would have sort E.
use Rattle.std.specs.Prelude.{◌≡◌, ℕ, zero, suc, List, [], ◌∷◌, Some, false, codes, refl, IsTrue}
use Rattle.std.proofs.Common.{inl, inr, ap, sym, subst, ◌∙◌}
use Rattle.std.proofs.lemmas.Bool.{false≢true}
use Rattle.mw_logic.specs.Term.{RawTerm, apply, nil, cons, constant, binary}
use Rattle.mw_logic.specs.Signature.{Signature, Sorted, sort, kind, Declaration, Operator, IsOperator, Identity, constant_of, identity_term, SameKind, same, up, down, HasKind, of_operator, IsRawTerm, an_operator, AreRawTerms as arguments}
use Rattle.mw_logic.specs.Sorts.{AtOrBelow, IsBelow, AreBelow, Declares, Takes, IsLeastSort}
use Rattle.mw_logic.specs.Preregular.{AreOfKinds}
use Rattle.mw_logic.specs.TermOrder.{stands_after}
use Rattle.mw_logic.specs.Kinds.{is_successor}
use Rattle.mw_logic.specs.NormalForm.{normal_form}
use Rattle.mw_logic.proofs.AcceptedTest.{is_accepted-sound, is_well_sorted-sound}
use Rattle.mw_logic.proofs.BelowLaws.{IsBelow-refl}
use Rattle.mw_logic.proofs.Canonical.{IsCanonical, canonical}
use Rattle.mw_logic.proofs.RowsKit as kit
use Rattle.mw_sorting.specs.ComputedSorts.{IsResultOn, ComputedSort, plain_sort, chain_sort, no_sorts, last, before}
use Rattle.mw_sorting.specs.PreregularModulo.{IsOfKind, IsPreregularModulo}
use Rattle.mw_sorting.proofs.Leastness.{computed-least}

-- an operator with one declaration has its result on sorts at or below the declared ones
result_of_one : (sig : Signature) (o : Operator) (sorts : List Sorted) (R : Sorted) (Ss : List Sorted) → o.declarations ≡ record { args = sorts; result = R } ∷ [] → AreBelow sig Ss sorts → IsResultOn sig o Ss R
result_of_one sig o sorts R Ss e fits = inl (record {
  takes = record { args = sorts; declares = inl (rw e (inl refl)); fits = fits };
  least = λ Q t. subst (IsBelow sig R) (kit.one_result o sorts R Ss Q e t) (IsBelow-refl sig R);
})

abbrev lists : Operator
lists = kit.with_axioms false (Some (constant_of 1)) (kit.an_operator (codes "__") (sort 1 ∷ sort 1 ∷ []) (sort 1))

abbrev LIST : Signature
LIST = record {
  sorts = codes "S" ∷ [];
  pairs = [];
  operators = kit.an_operator (codes "mt") [] (sort 1) ∷ kit.an_operator (codes "a") [] (sort 1) ∷ lists ∷ [];
  nat = false;
  qid = false;
}

-- each sort is alone in its kind
one_sort : {S T : ℕ} → SameKind LIST S T → S ≡ T
one_sort same = refl
one_sort (up m p) = absurd m
one_sort (down m p) = absurd m

-- the result on two sorts
abbrev both : Sorted → Sorted → Sorted
both (sort S) (sort T) = sort 1
both (sort S) (kind K) = kind 1
both (kind K) T = kind 1

both-kind : (S T : Sorted) → IsOfKind LIST 1 (both S T)
both-kind (sort S) (sort T) = same
both-kind (sort S) (kind K) = same
both-kind (kind K) T = same

both-assoc : (S T U : Sorted) → both (both S T) U ≡ both S (both T U)
both-assoc (sort S) (sort T) (sort U) = refl
both-assoc (sort S) (sort T) (kind U) = refl
both-assoc (sort S) (kind T) U = refl
both-assoc (kind S) T U = refl

below_one : {S : ℕ} → SameKind LIST S 1 → AtOrBelow LIST.pairs S 1
below_one {S} h = subst (λ T. AtOrBelow LIST.pairs S T) (one_sort h) AtOrBelow.same

-- only sorts at or below S are taken
taken : (Ss : List Sorted) (Q : Sorted) → Takes LIST lists Ss Q → AreBelow LIST Ss (sort 1 ∷ sort 1 ∷ [])
taken Ss Q t = by_declaration t.declares
  where
    by_declaration : Declares lists t.args Q → AreBelow LIST Ss (sort 1 ∷ sort 1 ∷ [])
    by_declaration (inl (inl k)) = subst (AreBelow LIST Ss) (sym (ap (λ (d : Declaration). d.args) k)) t.fits
    by_declaration (inl (inr x)) = absurd x
    by_declaration (inr h) = absurd (false≢true h.0)

result_on : (S T : Sorted) → IsOfKind LIST 1 S → IsOfKind LIST 1 T → IsResultOn LIST lists (S ∷ T ∷ []) (both S T)
result_on (sort S) (sort T) h k = result_of_one LIST lists (sort 1 ∷ sort 1 ∷ []) (sort 1) (sort S ∷ sort T ∷ []) refl (below_one h, (below_one k, tt))
result_on (sort S) (kind K) h k = inr ((λ Q t. (taken (sort S ∷ kind K ∷ []) Q t).1.0), refl)
result_on (kind K) T h k = inr ((λ Q t. (taken (kind K ∷ T ∷ []) Q t).0), refl)

result_is : (S T R : Sorted) → IsOfKind LIST 1 S → IsOfKind LIST 1 T → IsResultOn LIST lists (S ∷ T ∷ []) R → R ≡ both S T
result_is (sort S) (sort T) R h k (inl l) = sym (kit.one_result lists (sort 1 ∷ sort 1 ∷ []) (sort 1) (sort S ∷ sort T ∷ []) R refl l.takes)
result_is (sort S) (sort T) R h k (inr n) = absurd (n.0 (sort 1) (record { args = sort 1 ∷ sort 1 ∷ []; declares = inl (inl refl); fits = (below_one h, (below_one k, tt)) }))
result_is (sort S) (kind K) R h k (inl l) = absurd (taken (sort S ∷ kind K ∷ []) R l.takes).1.0
result_is (sort S) (kind K) R h k (inr n) = n.1
result_is (kind K) T R h k (inl l) = absurd (taken (kind K ∷ T ∷ []) R l.takes).0
result_is (kind K) T R h k (inr n) = n.1

-- the one operator that is associative, and that has an identity
the_lists : (f : ℕ) (o : Operator) → IsOperator LIST f o → IsTrue o.assoc → lists ≡ o
the_lists zero o e h = cc
the_lists (suc zero) o e h = let k : kit.an_operator (codes "mt") [] (sort 1) ≡ o = cc in absurd (false≢true (subst (λ (o : Operator). IsTrue o.assoc) (sym k) h))
the_lists (suc (suc zero)) o e h = let k : kit.an_operator (codes "a") [] (sort 1) ≡ o = cc in absurd (false≢true (subst (λ (o : Operator). IsTrue o.assoc) (sym k) h))
the_lists (suc (suc (suc zero))) o e h = cc
the_lists (suc (suc (suc (suc n)))) o e h = cc

a_constant : (name : List ℕ) (o : Operator) → kit.an_operator name [] (sort 1) ≡ o → (Ss : List Sorted) → AreOfKinds LIST Ss o.args → (R : Sorted) × IsResultOn LIST o Ss R
a_constant name o e Ss h = subst (λ (o : Operator). AreOfKinds LIST Ss o.args → (R : Sorted) × IsResultOn LIST o Ss R) e (by_sorts Ss) h
  where
    by_sorts : (Ss : List Sorted) → AreOfKinds LIST Ss [] → (R : Sorted) × IsResultOn LIST (kit.an_operator name [] (sort 1)) Ss R
    by_sorts [] h = (sort 1, result_of_one LIST (kit.an_operator name [] (sort 1)) [] (sort 1) [] refl tt)
    by_sorts (S ∷ Ss) h = absurd h

results : (f : ℕ) (o : Operator) → IsOperator LIST f o → (Ss : List Sorted) → AreOfKinds LIST Ss o.args → (R : Sorted) × IsResultOn LIST o Ss R
results zero o e Ss h = cc
results (suc zero) o e Ss h = let k : kit.an_operator (codes "mt") [] (sort 1) ≡ o = cc in a_constant (codes "mt") o k Ss h
results (suc (suc zero)) o e Ss h = let k : kit.an_operator (codes "a") [] (sort 1) ≡ o = cc in a_constant (codes "a") o k Ss h
results (suc (suc (suc zero))) o e Ss h =
    let k : lists ≡ o = cc in
    subst (λ (o : Operator). (Ss : List Sorted) → AreOfKinds LIST Ss o.args → (R : Sorted) × IsResultOn LIST o Ss R) k two Ss h
  where
    two : (Ss : List Sorted) → AreOfKinds LIST Ss (1 ∷ 1 ∷ []) → (R : Sorted) × IsResultOn LIST lists Ss R
    two [] h = absurd h
    two (S ∷ []) h = absurd h.1
    two (S ∷ T ∷ []) h = (both S T, result_on S T h.0 h.1.0)
    two (S ∷ T ∷ U ∷ Us) h = absurd h.1.1
results (suc (suc (suc (suc n)))) o e Ss h = cc

associative : (S T U P Q V W : Sorted) → IsOfKind LIST 1 S → IsOfKind LIST 1 T → IsOfKind LIST 1 U → IsResultOn LIST lists (S ∷ T ∷ []) P → IsResultOn LIST lists (P ∷ U ∷ []) V
    → IsResultOn LIST lists (T ∷ U ∷ []) Q → IsResultOn LIST lists (S ∷ Q ∷ []) W → IsBelow LIST V W × IsBelow LIST W V
associative S T U P Q V W i j k p v q w =
    let a : P ≡ both S T = result_is S T P i j p in
    let b : Q ≡ both T U = result_is T U Q j k q in
    let c : V ≡ both P U = result_is P U V (subst (IsOfKind LIST 1) (sym a) (both-kind S T)) k v in
    let d : W ≡ both S Q = result_is S Q W i (subst (IsOfKind LIST 1) (sym b) (both-kind T U)) w in
    let e : V ≡ W = c ∙ ap (λ X. both X U) a ∙ both-assoc S T U ∙ ap (both S) (sym b) ∙ sym d in
    (subst (IsBelow LIST V) e (IsBelow-refl LIST V), subst (λ X. IsBelow LIST X V) e (IsBelow-refl LIST V))

-- the identity's sort
mt_sort : (E : Sorted) → ComputedSort LIST (constant 1) E → E ≡ sort 1
mt_sort E (plain_sort {Ss = []} o is h ss (inl l)) = sym (kit.one_result o [] (sort 1) [] E (let k : kit.an_operator (codes "mt") [] (sort 1) ≡ o = cc in subst (λ (o : Operator). o.declarations ≡ record { args = []; result = sort 1 } ∷ []) k refl) l.takes)
mt_sort E (plain_sort {Ss = []} o is h ss (inr n)) =
    let k : kit.an_operator (codes "mt") [] (sort 1) ≡ o = cc in
    absurd (n.0 (sort 1) (subst (λ (o : Operator). Takes LIST o [] (sort 1)) k (record { args = []; declares = inl (inl refl); fits = tt })))
mt_sort E (plain_sort {Ss = S ∷ Ss} o is h ss q) = elim ss [ ]
mt_sort E (chain_sort o is h f) = absurd (false≢true h)

beside : (S R : Sorted) → IsOfKind LIST 1 S → IsBelow LIST S (both (sort 1) S) × IsBelow LIST S (both S (sort 1))
beside (sort S) R h = (below_one h, below_one h)
beside (kind K) R h = (h, h)

identity : (f : ℕ) (o : Operator) (i : Identity) → IsOperator LIST f o → o.identity ≡ Some i → IsTrue o.assoc → (E S R : Sorted) → ComputedSort LIST (identity_term i) E → IsOfKind LIST o.result S
    → (IsResultOn LIST o (E ∷ S ∷ []) R → IsBelow LIST S R) × (IsResultOn LIST o (S ∷ E ∷ []) R → IsBelow LIST S R)
identity f o i is n h E S R s k =
    let e : lists ≡ o = the_lists f o is h in
    let m : Some (constant_of 1) ≡ Some i = ap (λ (o : Operator). o.identity) e ∙ n in
    let j : constant_of 1 ≡ i = cc in
    let g : E ≡ sort 1 = mt_sort E (subst (λ i. ComputedSort LIST (identity_term i) E) (sym j) s) in
    let k1 : IsOfKind LIST 1 S = subst (λ (o : Operator). IsOfKind LIST o.result S) (sym e) k in
    let at_one : (IsResultOn LIST lists (sort 1 ∷ S ∷ []) R → IsBelow LIST S R) × (IsResultOn LIST lists (S ∷ sort 1 ∷ []) R → IsBelow LIST S R) =
    ((λ r. subst (IsBelow LIST S) (sym (result_is (sort 1) S R same k1 r)) (beside S R k1).0), (λ r. subst (IsBelow LIST S) (sym (result_is S (sort 1) R k1 same r)) (beside S R k1).1)) in
    subst (λ (o : Operator). (IsResultOn LIST o (E ∷ S ∷ []) R → IsBelow LIST S R) × (IsResultOn LIST o (S ∷ E ∷ []) R → IsBelow LIST S R)) e
    (subst (λ E. (IsResultOn LIST lists (E ∷ S ∷ []) R → IsBelow LIST S R) × (IsResultOn LIST lists (S ∷ E ∷ []) R → IsBelow LIST S R)) (sym g) at_one)

list_is_preregular : IsPreregularModulo LIST
list_is_preregular = record {
  accepted = is_accepted-sound LIST refl;
  well_sorted = is_well_sorted-sound LIST refl;
  results = results;
  associative = λ f o is h S T U P Q V W i j k p v q w.
      let e : lists ≡ o = the_lists f o is h in
      by_lists o e S T U P Q V W i j k p v q w;
  identity = λ f o i is n. identity f o i is n (((is_accepted-sound LIST refl).identity f o i is n).0);
  naturals = λ h. absurd (false≢true h);
}
  where
    by_lists : (o : Operator) → lists ≡ o → (S T U P Q V W : Sorted) → IsOfKind LIST o.result S → IsOfKind LIST o.result T → IsOfKind LIST o.result U → IsResultOn LIST o (S ∷ T ∷ []) P → IsResultOn LIST o (P ∷ U ∷ []) V
        → IsResultOn LIST o (T ∷ U ∷ []) Q → IsResultOn LIST o (S ∷ Q ∷ []) W → IsBelow LIST V W × IsBelow LIST W V
    by_lists o e = subst (λ (o : Operator). (S T U P Q V W : Sorted) → IsOfKind LIST o.result S → IsOfKind LIST o.result T → IsOfKind LIST o.result U → IsResultOn LIST o (S ∷ T ∷ []) P → IsResultOn LIST o (P ∷ U ∷ []) V
        → IsResultOn LIST o (T ∷ U ∷ []) Q → IsResultOn LIST o (S ∷ Q ∷ []) W → IsBelow LIST V W × IsBelow LIST W V) e associative

-- a a has the least sort S
a_sort : ComputedSort LIST (constant 2) (sort 1)
a_sort = plain_sort _ refl refl no_sorts (result_of_one LIST _ [] (sort 1) [] refl tt)

aa_raw : IsRawTerm LIST (binary 3 (constant 2) (constant 2))
aa_raw = an_operator _ refl (arguments.next a_raw a_kind (arguments.next a_raw a_kind arguments.end))
  where
    a_raw : IsRawTerm LIST (constant 2)
    a_raw = an_operator _ refl arguments.end

    a_kind : HasKind LIST (constant 2) 1
    a_kind = of_operator _ refl same

abbrev aa : RawTerm
aa = apply 3 (cons (constant 2) (cons (constant 2) nil))

aa_normal : normal_form LIST (binary 3 (constant 2) (constant 2)) ≡ aa
unfolding stands_after is_successor
aa_normal = refl

aa_least : IsLeastSort LIST (binary 3 (constant 2) (constant 2)) (sort 1)
aa_least =
    let c : IsCanonical LIST aa = subst (IsCanonical LIST) aa_normal (canonical LIST list_is_preregular.accepted (binary 3 (constant 2) (constant 2))) in
    computed-least LIST list_is_preregular aa (sort 1) c aa_raw (chain_sort _ refl refl (before a_sort (last a_sort) (result_on (sort 1) (sort 1) same same)))

abbrev PART : Signature
PART = record {
  sorts = codes "E" ∷ [];
  pairs = [];
  operators = kit.an_operator (codes "e") [] (sort 1) ∷ kit.with_axioms false (Some (constant_of 1)) (kit.an_operator (codes "f") (sort 1 ∷ kind 1 ∷ []) (sort 1)) ∷ [];
  nat = false;
  qid = false;
}

-- e beside a term of the kind alone would have sort E
part_is_not : IsPreregularModulo PART → ⊥
part_is_not ok =
    (ok.identity 2 _ (constant_of 1) refl refl (sort 1) (kind 1) (sort 1) (plain_sort _ refl refl no_sorts (result_of_one PART _ [] (sort 1) [] refl tt)) same).0
    (result_of_one PART _ (sort 1 ∷ kind 1 ∷ []) (sort 1) (sort 1 ∷ kind 1 ∷ []) refl (AtOrBelow.same, (same, tt)))
