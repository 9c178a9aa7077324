-- The declarations that take an argument, and the least of results, found by going through declarations one after another.
use Rattle.std.proofs.Common.{◌≡◌, ◌∙◌, ℕ, ◌<◌, List, [], ◌∷◌, ◌++◌, length, get_or, take, ◌+◌, ◌≤◌, refl, ap, sym, subst, inl, inr}
use Rattle.std.specs.Prelude.{slice_get, Some, None, IsTrue}
use Rattle.std.proofs.lemmas.List.{take_more, take_all}
use Rattle.mw_logic.specs.Signature.{Signature, Sorted, Declaration, Operator, SameKind, Member}
use Rattle.mw_logic.specs.Sorts.{IsBelow}
use Rattle.mw_logic.specs.Accepted.{number_of_sort}
use Rattle.mw_logic.specs.Preregular.{IsSortOf}
use Rattle.mw_logic.proofs.KindLaws.{SameKind-trans, SameKind-sym}
use Rattle.mw_logic.proofs.Members.{member-left}
use Rattle.mw_poset.proofs.Members.{member-last, member-push, member-at}
use Rattle.mw_sorts.specs.States.{ways, IsOperatorOf, AreNumbersOf, TakesAt, Narrows, IsResultAmong, IsLeastAmong, IsEndOf}
use Rattle.mw_sorts.proofs.Getting.{get-member, get-same}
use Rattle.mw_logic.proofs.BelowLaws.{IsBelow-refl, IsBelow-trans}
use Rattle.mw_sorts.proofs.Ways.{ways_known}
use Rattle.mw_sorts.proofs.Taking.{of_kinds-get, of_kinds-length}

-- an argument of a declaration is there, and of its operator's kind
pub record IsArgument (sig : Signature) (d : Declaration) (i K : ℕ) : Type 0 where
  pub sort : Sorted
  pub is : slice_get d.args i ≡ Some sort
  pub of_kind : SameKind sig (number_of_sort sort) K
  pub there : IsSortOf sig (number_of_sort sort)

pub argument : (sig : Signature) (o : Operator) (j : ℕ) (d : Declaration) (i K : ℕ) → IsOperatorOf sig o → slice_get (ways o) j ≡ Some d → slice_get o.args i ≡ Some K → IsArgument sig d i K
argument sig o j d i K known e k =
    let is = ways_known sig o known d (get-member (ways o) j d e) in
    let s = of_kinds-get sig d.args o.args i K is.args k in
    record { sort = s.0; is = s.1; of_kind = s.2; there = is.args_there s.0 (get-member d.args i s.0 s.1) }

-- two results of an operator are of one kind
pub results-kind : (sig : Signature) (o : Operator) (j : ℕ) (d : Declaration) (R : Sorted) → IsOperatorOf sig o → slice_get (ways o) j ≡ Some d → SameKind sig o.result (number_of_sort R) → SameKind sig (number_of_sort d.result) (number_of_sort R)
results-kind sig o j d R known e k = let is = ways_known sig o known d (get-member (ways o) j d e) in SameKind-trans (SameKind-sym is.result) k

-- one declaration more is looked at: it takes the argument, or it doesn't
pub narrows-more : (sig : Signature) (ds : List Declaration) (i : ℕ) (S : Sorted) (alive narrowed : List ℕ) (j : ℕ) → Narrows sig ds i S alive narrowed → TakesAt sig ds i S j → Narrows sig ds i S (alive ++ j ∷ []) (narrowed ++ j ∷ [])
narrows-more sig ds i S alive narrowed j n t k = (to, from)
  where
    to : Member k (narrowed ++ j ∷ []) → Member k (alive ++ j ∷ []) × TakesAt sig ds i S k
    to m = elim (member-push k j narrowed m) [
      | inl h ↦ let b = (n k).0 h in (member-left k alive (j ∷ []) b.0, b.1)
      | inr e ↦ (subst (λ (x : ℕ). Member x (alive ++ j ∷ [])) e (member-last j alive), subst (λ (x : ℕ). TakesAt sig ds i S x) e t)
    ]

    from : Member k (alive ++ j ∷ []) × TakesAt sig ds i S k → Member k (narrowed ++ j ∷ [])
    from b = elim (member-push k j alive b.0) [
      | inl h ↦ member-left k narrowed (j ∷ []) ((n k).1 (h, b.1))
      | inr e ↦ subst (λ (x : ℕ). Member x (narrowed ++ j ∷ [])) e (member-last j narrowed)
    ]

pub narrows-skip : (sig : Signature) (ds : List Declaration) (i : ℕ) (S : Sorted) (alive narrowed : List ℕ) (j : ℕ) → Narrows sig ds i S alive narrowed → (TakesAt sig ds i S j → ⊥) → Narrows sig ds i S (alive ++ j ∷ []) narrowed
narrows-skip sig ds i S alive narrowed j n t k = (to, from)
  where
    to : Member k narrowed → Member k (alive ++ j ∷ []) × TakesAt sig ds i S k
    to m = let b = (n k).0 m in (member-left k alive (j ∷ []) b.0, b.1)

    from : Member k (alive ++ j ∷ []) × TakesAt sig ds i S k → Member k narrowed
    from b = elim (member-push k j alive b.0) [ inl h ↦ (n k).1 (h, b.1) | inr e ↦ absurd (t (subst (λ (x : ℕ). TakesAt sig ds i S x) (sym e) b.1)) ]

-- R is at or below the results of these declarations
abbrev pub IsBelowThese : Signature → List Declaration → List ℕ → Sorted → Type 0
IsBelowThese sig ds these R = (k : ℕ) (d : Declaration) → Member k these → slice_get ds k ≡ Some d → IsBelow sig R d.result

-- R is a result, and if one of these declarations has the least result, R is at or below it
pub record IsCandidate (sig : Signature) (ds : List Declaration) (alive these : List ℕ) (R : Sorted) : Type 0 where
  pub among : IsResultAmong ds alive R
  pub only : (k : ℕ) (d : Declaration) → Member k these → slice_get ds k ≡ Some d → IsBelowThese sig ds alive d.result → IsBelow sig R d.result

pub below-more : (sig : Signature) (ds : List Declaration) (these : List ℕ) (R : Sorted) (j : ℕ) (d : Declaration) → IsBelowThese sig ds these R → slice_get ds j ≡ Some d → IsBelow sig R d.result → IsBelowThese sig ds (these ++ j ∷ []) R
below-more sig ds these R j d h e b k f m g = elim (member-push k j these m) [
  | inl i ↦ h k f i g
  | inr q ↦ let same : d ≡ f = get-same ds j d f e (subst (λ (x : ℕ). slice_get ds x ≡ Some f) (sym q) g) in subst (λ (x : Declaration). IsBelow sig R x.result) same b
]

-- the next declaration's result is at or below the candidate, and takes its place
pub candidate-taken : (sig : Signature) (ds : List Declaration) (alive these : List ℕ) (R : Sorted) (j : ℕ) (d : Declaration) → IsCandidate sig ds alive these R → Member j alive → slice_get ds j ≡ Some d → IsBelow sig d.result R
    → IsCandidate sig ds alive (these ++ j ∷ []) d.result
candidate-taken sig ds alive these R j d h m e b = record {
  among = (j, d, m, e, refl);
  only = λ k f i g l. elim (member-push k j these i) [
    | inl n ↦ IsBelow-trans sig d.result R f.result b (h.only k f n g l)
    | inr q ↦ let same : d ≡ f = get-same ds j d f e (subst (λ (x : ℕ). slice_get ds x ≡ Some f) (sym q) g) in subst (λ (x : Declaration). IsBelow sig d.result x.result) same (IsBelow-refl sig d.result)
  ];
}

-- or it isn't, and is no least result
pub candidate-kept : (sig : Signature) (ds : List Declaration) (alive these : List ℕ) (R : Sorted) (j : ℕ) (d : Declaration) → IsCandidate sig ds alive these R → slice_get ds j ≡ Some d → (IsBelow sig d.result R → ⊥)
    → IsCandidate sig ds alive (these ++ j ∷ []) R
candidate-kept sig ds alive these R j d h e b = record {
  among = h.among;
  only = λ k f i g l. elim (member-push k j these i) [
    | inl n ↦ h.only k f n g l
    | inr q ↦
        let same : f ≡ d = get-same ds j f d (subst (λ (x : ℕ). slice_get ds x ≡ Some f) (sym q) g) e in
        let a = h.among in
        absurd (b (subst (λ (x : Declaration). IsBelow sig x.result R) same (subst (λ (Q : Sorted). IsBelow sig f.result Q) a.4 (l a.0 a.1 a.2 a.3))))
  ];
}

-- where the candidate isn't the least result, there is none
pub none_least : (sig : Signature) (ds : List Declaration) (K : ℕ) (alive : List ℕ) (R : Sorted) → IsResultAmong ds alive R → ((Q : Sorted) → IsLeastAmong sig ds alive Q → IsBelow sig R Q)
    → (((Q : Sorted) → IsResultAmong ds alive Q → IsBelow sig R Q) → ⊥) → IsEndOf sig ds K alive None
none_least sig ds K alive R a only n = ((R, a), λ Q l. n (λ P r. IsBelow-trans sig R Q P (only Q l) (l.least P r)))

-- the next of the declarations that are alive is there
pub alive-there : (ds : List Declaration) (alive : List ℕ) (i : ℕ) → AreNumbersOf ds alive → i < length alive → get_or alive i 0 < length ds
alive-there ds alive i h l = h (get_or alive i 0) (member-at alive i 0 l)

-- the sort that was read as an argument is the argument
pub argument-read : (sig : Signature) (o : Operator) (alive : List ℕ) (i place K : ℕ) (d : Declaration) (S T : Sorted) → IsOperatorOf sig o → slice_get o.args place ≡ Some K → SameKind sig (number_of_sort S) K
    → slice_get (ways o) (get_or alive i 0) ≡ Some d → slice_get d.args place ≡ Some T → SameKind sig (number_of_sort S) (number_of_sort T) × IsSortOf sig (number_of_sort T)
argument-read sig o alive i place K d S T known k s e t =
    let a = argument sig o (get_or alive i 0) d place K known e k in
    let same : a.sort ≡ T = get-same d.args place a.sort T a.is t in
    (SameKind-trans s (SameKind-sym (subst (λ (U : Sorted). SameKind sig (number_of_sort U) K) same a.of_kind)), subst (λ (U : Sorted). IsSortOf sig (number_of_sort U)) same a.there)

takes-read : (sig : Signature) (ds : List Declaration) (place j : ℕ) (S T : Sorted) (d : Declaration) → slice_get ds j ≡ Some d → slice_get d.args place ≡ Some T → TakesAt sig ds place S j → IsBelow sig S T
takes-read sig ds place j S T d e t h =
    let same : h.0 ≡ d = get-same ds j h.0 d h.2 e in
    let there : slice_get d.args place ≡ Some h.1 = subst (λ (b : Declaration). slice_get b.args place ≡ Some h.1) same h.3 in
    subst (λ (U : Sorted). IsBelow sig S U) (get-same d.args place h.1 T there t) h.4

-- a step: the next declaration takes the argument, or it doesn't
pub narrowed-kept : (sig : Signature) (ds : List Declaration) (place : ℕ) (S T : Sorted) (alive : List ℕ) (i : ℕ) (old new : List ℕ) (d : Declaration) → Narrows sig ds place S (take i alive) old → i < length alive
    → slice_get ds (get_or alive i 0) ≡ Some d → slice_get d.args place ≡ Some T → IsBelow sig S T → new ≡ old ++ get_or alive i 0 ∷ [] → Narrows sig ds place S (take (i + 1) alive) new
narrowed-kept sig ds place S T alive i old new d n l e t b q =
    subst (λ (xs : List ℕ). Narrows sig ds place S (take (i + 1) alive) xs) (sym q)
    (subst (λ (xs : List ℕ). Narrows sig ds place S xs (old ++ get_or alive i 0 ∷ [])) (sym (take_more alive i 0 l))
    (narrows-more sig ds place S (take i alive) old (get_or alive i 0) n (d, T, e, t, b)))

pub narrowed-left : (sig : Signature) (ds : List Declaration) (place : ℕ) (S T : Sorted) (alive : List ℕ) (i : ℕ) (old new : List ℕ) (d : Declaration) → Narrows sig ds place S (take i alive) old → i < length alive
    → slice_get ds (get_or alive i 0) ≡ Some d → slice_get d.args place ≡ Some T → (IsBelow sig S T → ⊥) → new ≡ old → Narrows sig ds place S (take (i + 1) alive) new
narrowed-left sig ds place S T alive i old new d n l e t b q =
    subst (λ (xs : List ℕ). Narrows sig ds place S (take (i + 1) alive) xs) (sym q)
    (subst (λ (xs : List ℕ). Narrows sig ds place S xs old) (sym (take_more alive i 0 l))
    (narrows-skip sig ds place S (take i alive) old (get_or alive i 0) n (λ h. b (takes-read sig ds place (get_or alive i 0) S T d e t h))))

pub narrowed-done : (sig : Signature) (ds : List Declaration) (place : ℕ) (S : Sorted) (alive narrowed : List ℕ) (i : ℕ) → length alive ≤ i → Narrows sig ds place S (take i alive) narrowed → Narrows sig ds place S alive narrowed
narrowed-done sig ds place S alive narrowed i l n = subst (λ (xs : List ℕ). Narrows sig ds place S xs narrowed) (take_all i alive l) n

-- the kind of a result among those of declarations
pub among-kind : (sig : Signature) (o : Operator) (alive : List ℕ) (R : Sorted) → IsOperatorOf sig o → IsResultAmong (ways o) alive R → SameKind sig o.result (number_of_sort R) × IsSortOf sig (number_of_sort R)
among-kind sig o alive R known a =
    let d : Declaration = a.1 in
    let is = ways_known sig o known d (get-member (ways o) a.0 d a.3) in
    (subst (λ (Q : Sorted). SameKind sig o.result (number_of_sort Q)) a.4 is.result, subst (λ (Q : Sorted). IsSortOf sig (number_of_sort Q)) a.4 is.result_there)

-- one more declaration has been compared with the candidate
pub candidate-new : (sig : Signature) (ds : List Declaration) (alive : List ℕ) (i : ℕ) (R Q : Sorted) (d : Declaration) → IsCandidate sig ds alive (take i alive) R → i < length alive → slice_get ds (get_or alive i 0) ≡ Some d → d.result ≡ Q
    → IsBelow sig Q R → IsCandidate sig ds alive (take (i + 1) alive) Q
candidate-new sig ds alive i R Q d h l e q b =
    subst (λ (xs : List ℕ). IsCandidate sig ds alive xs Q) (sym (take_more alive i 0 l))
    (subst (λ (P : Sorted). IsCandidate sig ds alive (take i alive ++ get_or alive i 0 ∷ []) P) q
    (candidate-taken sig ds alive (take i alive) R (get_or alive i 0) d h (member-at alive i 0 l) e (subst (λ (P : Sorted). IsBelow sig P R) (sym q) b)))

pub candidate-old : (sig : Signature) (ds : List Declaration) (alive : List ℕ) (i : ℕ) (R Q P : Sorted) (d : Declaration) → IsCandidate sig ds alive (take i alive) R → i < length alive → slice_get ds (get_or alive i 0) ≡ Some d → d.result ≡ Q
    → (IsBelow sig Q R → ⊥) → P ≡ R → IsCandidate sig ds alive (take (i + 1) alive) P
candidate-old sig ds alive i R Q P d h l e q b p =
    subst (λ (xs : List ℕ). IsCandidate sig ds alive xs P) (sym (take_more alive i 0 l))
    (subst (λ (U : Sorted). IsCandidate sig ds alive (take i alive ++ get_or alive i 0 ∷ []) U) (sym p)
    (candidate-kept sig ds alive (take i alive) R (get_or alive i 0) d h e (λ c. b (subst (λ (U : Sorted). IsBelow sig U R) q c))))

pub these-more : (sig : Signature) (ds : List Declaration) (alive : List ℕ) (i : ℕ) (R Q : Sorted) (d : Declaration) → IsBelowThese sig ds (take i alive) R → i < length alive → slice_get ds (get_or alive i 0) ≡ Some d → d.result ≡ Q → IsBelow sig R Q
    → IsBelowThese sig ds (take (i + 1) alive) R
these-more sig ds alive i R Q d h l e q b =
    subst (λ (xs : List ℕ). IsBelowThese sig ds xs R) (sym (take_more alive i 0 l))
    (below-more sig ds (take i alive) R (get_or alive i 0) d h e (subst (λ (P : Sorted). IsBelow sig R P) (sym q) b))

-- the next result isn't above R
pub these-fail : (sig : Signature) (ds : List Declaration) (alive : List ℕ) (i : ℕ) (R Q : Sorted) (d : Declaration) → i < length alive → slice_get ds (get_or alive i 0) ≡ Some d → d.result ≡ Q → (IsBelow sig R Q → ⊥)
    → ((P : Sorted) → IsResultAmong ds alive P → IsBelow sig R P) → ⊥
these-fail sig ds alive i R Q d l e q b h = b (subst (λ (P : Sorted). IsBelow sig R P) q (h d.result (get_or alive i 0, d, member-at alive i 0 l, e, refl)))

-- the declarations of a commutative operator have two arguments
pub pairs : (sig : Signature) (o : Operator) → IsOperatorOf sig o → IsTrue o.comm → (d : Declaration) → Member d o.declarations → length d.args ≡ 2
pairs sig o known c d m = let (K, L, a, k) = known.comm c in of_kinds-length sig d.args o.args (known.declarations d m).args ∙ ap length a
