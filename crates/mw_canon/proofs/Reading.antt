-- The axioms of an operator, read off a signature and the kinds of its sorts.
use Rattle.std.specs.Prelude.{◌≡◌, ◌⊎◌, ℕ, zero, suc, ◌+◌, ◌<◌, ◌≤◌, List, [], ◌∷◌, ◌++◌, length, get_or, Bool, true, false, nat_eq, Some, None, unwrap_or, refl, IsTrue, codes}
use Rattle.std.proofs.Common.{inl, inr, arith, ap, sym, subst, ◌∙◌}
use Rattle.std.proofs.Math.ListN.{get_or-append}
use Rattle.std.proofs.lemmas.Bool.{both_ways, cases_eq, cases_lt, eqb-true, eq-eqb}
use Rattle.std.proofs.lemmas.List.{get_or_push}
use Rattle.std.proofs.lemmas.Option.{slice_get_read, slice_get_within, slice_get_past, unwrap_or-slice_get}
use Rattle.mw_logic.specs.Signature.{Signature, Operator, IsOperator, IsSortNamed, SameKind, IsSuccessor, Member, at_number}
use Rattle.mw_logic.specs.Accepted.{IsAccepted}
use Rattle.mw_logic.specs.Preregular.{IsSortOf}
use Rattle.mw_logic.specs.Parts.{is_assoc}
use Rattle.mw_logic.specs.Kinds.{is_successor}
use Rattle.mw_logic.specs.NormalForm.{is_comm}
use Rattle.mw_logic.proofs.Canonical.{same_operator}
use Rattle.mw_logic.proofs.KindLaws.{SameKind-sym}
use Rattle.mw_logic.proofs.Successor.{is_successor-true, is_successor-sound}
use Rattle.mw_poset.specs.SortOrder.{SortOrder, order_of}
use Rattle.mw_poset.specs.Order.{IsSort, IsKindOf}
use Rattle.mw_poset.proofs.Reading.{kinds_agree, kinds_same}
use Rattle.mw_canon.specs.Axioms.{HasAxioms, HasRow, AreRowsOf, IsKindOfNumbers}
use Rattle.mw_canon.specs.declared.axioms.Axioms.{Axioms}
use Rattle.mw_canon.specs.declared.axioms.Axioms.TheVariants.{Plain}

-- the operator at an index has the number behind it
pub operator_at : (sig : Signature) (os : List Operator) (i : ℕ) (o : Operator) → os ≡ sig.operators → i < length sig.operators → o ≡ get_or os i o → IsOperator sig (i + 1) o
operator_at sig os i o e h g =
    let one : suc i ≡ i + 1 = omega arith in
    subst (λ f. IsOperator sig f o) one (slice_get_read sig.operators (length sig.operators) i o refl h (subst (λ (xs : List Operator). o ≡ get_or xs i o) e g))

-- a sort of the signature is one of its order
pub sort_there : (sig : Signature) (order : SortOrder) (S : ℕ) → order ≡ order_of sig → IsSortOf sig S → IsSort order.sorts S
sort_there sig order S e h = subst (λ n. IsSort n S) (ap (λ (p : SortOrder). p.sorts) (sym e)) h

-- the sort at an index has the number behind it
pub sort_at : (sig : Signature) (names : List (List ℕ)) (n i : ℕ) (name : List ℕ) → names ≡ sig.sorts → n ≡ length sig.sorts → i < n → name ≡ get_or names i name → IsSortNamed sig (i + 1) name
sort_at sig names n i name e k h g =
    let one : suc i ≡ i + 1 = omega arith in
    subst (λ S. IsSortNamed sig S name) one (slice_get_read sig.sorts n i name k h (subst (λ (xs : List (List ℕ)). name ≡ get_or xs i name) e g))

-- where the sort at an index has another name, a sort of this name stands behind it
pub sort_behind : (sig : Signature) (i : ℕ) (name text : List ℕ) → IsSortNamed sig (i + 1) name → (name ≡ text → ⊥) → ((S : ℕ) → IsSortNamed sig S text → i < S) → (S : ℕ) → IsSortNamed sig S text → i + 1 < S
sort_behind sig i name text is differs h S s = by_case (cases_eq S (i + 1))
  where
    same : Some name ≡ Some text → name ≡ text
    same e = cc

    by_case : (S ≡ i + 1) ⊎ (S ≡ i + 1 → ⊥) → i + 1 < S
    by_case (inl e) = absurd (differs (same (sym is ∙ subst (λ T. IsSortNamed sig T text) e s)))
    by_case (inr d) = let l : i < S = h S s in omega (arith, d)

-- and none past the last
pub no_sort_past : (sig : Signature) (i : ℕ) (text : List ℕ) → length sig.sorts ≤ i → ((S : ℕ) → IsSortNamed sig S text → i < S) → (S : ℕ) → IsSortNamed sig S text → ⊥
no_sort_past sig i text l h zero s = cc
no_sort_past sig i text l h (suc j) s =
    let a : j < length sig.sorts = slice_get_within sig.sorts j text s in
    let b : i < suc j = h (suc j) s in
    omega arith

same_first : {K L : ℕ} → K ∷ [] ≡ L ∷ [] → K ≡ L
same_first e = cc

-- a test that fails wherever it would show the successor
not_shown : (sig : Signature) (f : ℕ) → (IsSuccessor sig f → ⊥) → is_successor sig f ≡ false
not_shown sig f differs = by_test (is_successor sig f) refl
  where
    by_test : (b : Bool) → is_successor sig f ≡ b → is_successor sig f ≡ false
    by_test false h = h
    by_test true h = absurd (differs (is_successor-sound sig f h))

-- without numbers there is no successor
pub no_numbers : (sig : Signature) (f : ℕ) → IsKindOfNumbers sig None → is_successor sig f ≡ false
no_numbers sig f none = not_shown sig f (λ s. none s.nat s.Nat s.named)

module _ (sig : Signature) (f : ℕ) (o : Operator) (is : IsOperator sig f o) where
  -- what an operator is said to have is what the signature says
  pub assoc_is : is_assoc sig f ≡ o.assoc
  assoc_is = rw is refl

  pub comm_is : is_comm sig f ≡ o.comm
  comm_is = rw is refl

  -- a commutative operator has two arguments, so it isn't the successor
  pub comm_not_successor : IsAccepted sig → IsTrue o.comm → is_successor sig f ≡ false
  comm_not_successor ok comm = not_shown sig f (λ s. let p : _ = ok.comm f o is comm in apart (sym p.2 ∙ ap (λ (p : Operator). p.args) (same_operator sig f o s.operator is s.is_there) ∙ s.takes_one))
    where
      apart : {K L M : ℕ} → K ∷ L ∷ [] ≡ M ∷ [] → ⊥
      apart e = cc

  -- where there is not one argument, or another name, it isn't the successor
  pub other_arguments : ((K : ℕ) → o.args ≡ K ∷ [] → ⊥) → is_successor sig f ≡ false
  other_arguments differs = not_shown sig f (λ s. differs s.argument (ap (λ (p : Operator). p.args) (same_operator sig f o s.operator is s.is_there) ∙ s.takes_one))

  pub other_name : (o.spelling ≡ codes "s_" → ⊥) → is_successor sig f ≡ false
  other_name differs = not_shown sig f (λ s. differs (ap (λ (p : Operator). p.spelling) (same_operator sig f o s.operator is s.is_there) ∙ s.spelled))

  module _ (ok : IsAccepted sig) (K : ℕ) (numbers : IsKindOfNumbers sig (Some K)) (ps : List (ℕ × ℕ)) (e : sig.pairs ≡ ps) (A R L : ℕ) (one : o.args ≡ A ∷ []) (of_result : IsKindOf ps o.result R) where
    Numbers : IsKindOf ps numbers.1 K
    Numbers = subst (λ (qs : List (ℕ × ℕ)). IsKindOf qs numbers.1 K) e numbers.3

    -- where the name and both kinds are right, it is the successor
    shown : o.spelling ≡ codes "s_" → IsKindOf ps A L → R ≡ K → L ≡ K → is_successor sig f ≡ true
    shown name of_argument r l = is_successor-true sig f (record {
      operator = o;
      is_there = is;
      nat = numbers.0;
      spelled = name;
      Nat = numbers.1;
      named = numbers.2;
      of_kind = kinds_agree ps numbers.1 o.result K Numbers (subst (λ k. IsKindOf ps o.result k) r of_result) sig e;
      argument = A;
      takes_one = one;
      of_argument = kinds_agree ps numbers.1 A K Numbers (subst (λ k. IsKindOf ps A k) l of_argument) sig e;
    })

    -- and only there
    other_result : (R ≡ K → ⊥) → is_successor sig f ≡ false
    other_result differs = not_shown sig f (λ s.
        let same : s.operator ≡ o = same_operator sig f s.operator o s.is_there is in
        let nat : s.Nat ≡ numbers.1 = ok.sorts_differ s.Nat numbers.1 (codes "Nat") s.named numbers.2 in
        differs (kinds_same ps sig o.result numbers.1 R K of_result Numbers e (SameKind-sym (subst (λ N. SameKind sig N o.result) nat (subst (λ (p : Operator). SameKind sig s.Nat p.result) same s.of_kind)))))

    other_argument : IsKindOf ps A L → (L ≡ K → ⊥) → is_successor sig f ≡ false
    other_argument of_argument differs = not_shown sig f (λ s.
        let same : s.operator ≡ o = same_operator sig f s.operator o s.is_there is in
        let nat : s.Nat ≡ numbers.1 = ok.sorts_differ s.Nat numbers.1 (codes "Nat") s.named numbers.2 in
        let a : s.argument ≡ A = same_first (sym s.takes_one ∙ ap (λ (p : Operator). p.args) same ∙ one) in
        differs (kinds_same ps sig A numbers.1 L K of_argument Numbers e (SameKind-sym (subst (λ N. SameKind sig N A) nat (subst (λ B. SameKind sig s.Nat B) a s.of_argument)))))

    -- so the comparison of kinds tells
    pub by_argument : o.spelling ≡ codes "s_" → IsKindOf ps A L → R ≡ K → nat_eq L K ≡ is_successor sig f
    by_argument name of_argument r = by_test (nat_eq L K) refl
      where
        by_test : (b : Bool) → nat_eq L K ≡ b → nat_eq L K ≡ is_successor sig f
        by_test true h = h ∙ sym (shown name of_argument r (eqb-true L K h))
        by_test false h = h ∙ sym (other_argument of_argument (λ e. both_ways _ h (eq-eqb L K e)))

    pub by_result : (R ≡ K → ⊥) → nat_eq R K ≡ is_successor sig f
    by_result differs = by_test (nat_eq R K) refl
      where
        by_test : (b : Bool) → nat_eq R K ≡ b → nat_eq R K ≡ is_successor sig f
        by_test true h = absurd (differs (eqb-true R K h))
        by_test false h = h ∙ sym (other_result differs)

-- the first of some sorts is one of them
pub first_there : (Ks Ls : List ℕ) → Ks ≡ Ls → 1 ≤ length Ls → Member (get_or Ls 0 0) Ks
first_there Ks [] e h = absurd (omega arith)
first_there Ks (L ∷ Ls) e h = subst (Member L) (sym e) (inl refl)

-- a list of length one
pub is_one : (Ks Ls : List ℕ) → Ks ≡ Ls → 1 ≤ length Ls → length Ls < 2 → Ks ≡ get_or Ls 0 0 ∷ []
is_one Ks [] e h k = absurd (omega arith)
is_one Ks (L ∷ []) e h k = e
is_one Ks (L ∷ M ∷ Ls) e h k = absurd (omega arith)

-- and one of another length
pub not_one : (Ks Ls : List ℕ) → Ks ≡ Ls → (length Ls ≡ 1 → ⊥) → (K : ℕ) → Ks ≡ K ∷ [] → ⊥
not_one Ks Ls e h K k = h (ap length (sym e ∙ k))

-- what is no operator has no axiom
no_operator : (sig : Signature) (f : ℕ) → at_number sig.operators f ≡ None → HasAxioms sig f Plain
unfolding is_successor
no_operator sig f h = (rw h refl, rw h refl, rw h refl)

-- before the first operator, with one row more, and past the last operator
pub rows_begin : (sig : Signature) (rows : List Axioms) (f : ℕ) → f ≤ 0 → HasRow sig rows f
rows_begin sig rows zero h = no_operator sig zero refl
rows_begin sig rows (suc f) h = absurd (omega arith)

pub row_pushed : (sig : Signature) (rows after : List Axioms) (n : ℕ) (row : Axioms) → length rows ≡ n → after ≡ rows ++ row ∷ [] → ((f : ℕ) → f ≤ n → HasRow sig rows f) → HasAxioms sig (n + 1) row
    → (f : ℕ) → f ≤ n + 1 → HasRow sig after f
row_pushed sig rows after n row l e h k zero m = no_operator sig zero refl
row_pushed sig rows after n row l e h k (suc i) m = subst (λ xs. HasRow sig xs (suc i)) (sym e) (by_case (cases_lt i n))
  where
    by_case : (i < n) ⊎ (n ≤ i) → HasRow sig (rows ++ row ∷ []) (suc i)
    by_case (inl b) = subst (HasAxioms sig (suc i)) (sym (unwrap_or-slice_get (rows ++ row ∷ []) i Plain ∙ get_or-append rows (row ∷ []) Plain i (omega (arith, l)) ∙ sym (unwrap_or-slice_get rows i Plain))) (h (suc i) (omega arith))
    by_case (inr g) =
        let same : length rows ≡ i = omega (arith, l) in
        let one : n + 1 ≡ suc i = omega (arith, l) in
        subst (HasAxioms sig (suc i)) (sym (unwrap_or-slice_get (rows ++ row ∷ []) i Plain ∙ get_or_push rows row Plain i same)) (subst (λ f. HasAxioms sig f row) one k)

pub rows_end : (sig : Signature) (rows : List Axioms) (n : ℕ) → length rows ≡ n → length sig.operators ≤ n → ((f : ℕ) → f ≤ n → HasRow sig rows f) → AreRowsOf sig rows
rows_end sig rows n l m h zero = h zero (omega arith)
rows_end sig rows n l m h (suc i) = by_case (cases_lt i n)
  where
    by_case : (i < n) ⊎ (n ≤ i) → HasRow sig rows (suc i)
    by_case (inl b) = h (suc i) (omega arith)
    by_case (inr g) =
        subst (λ x. HasAxioms sig (suc i) (unwrap_or x Plain)) (sym (slice_get_past rows i (omega (arith, l)))) (no_operator sig (suc i) (slice_get_past sig.operators i (omega arith)))
