-- What an operator makes of canonical terms has a computed sort at or below its result on their sorts: identities are
-- left out, arguments flattened and put in order, numerals counted on.
use Rattle.std.specs.Prelude.{◌≡◌, ◌^◌, ℕ, suc, List, [], ◌∷◌, Bool, true, false, cond, ◌&&◌, nat_eq, nat_lt, Option, Some, None, IsTrue, refl}
use Rattle.std.proofs.Common.{inl, inr, sym, subst}
use Rattle.std.proofs.lemmas.Bool.{both_ways, eqb-true, and_parts}
use Rattle.mw_logic.specs.Term.{RawTerm, numeral, quoted, variable, apply, RawTerms, nil, cons, join}
use Rattle.mw_logic.specs.Signature.{Signature, Sorted, Operator, IsOperator, IsSuccessor, Identity, identity_term, SameKind, AreRawTerms, end, next}
use Rattle.mw_logic.specs.Sorts.{IsBelow}
use Rattle.mw_logic.specs.TermOrder.{stands_after, sorted_terms}
use Rattle.mw_logic.specs.Parts.{is_assoc, all_nested}
use Rattle.mw_logic.specs.Kinds.{is_successor}
use Rattle.mw_logic.specs.NormalForm.{is_comm, identity_of, is_identity, own_arguments, arranged, counted, applied_in}
use Rattle.mw_logic.proofs.Canonical.{Each, Each-join, IsCanonical, AreCanonical, named, comm_operator, identity_operator}
use Rattle.mw_logic.proofs.Soundness.{Made, made, HasKind-same, is_associative}
use Rattle.mw_logic.proofs.Successor.{is_successor-sound}
use Rattle.mw_logic.proofs.BelowLaws.{IsBelow-refl, IsBelow-trans}
use Rattle.mw_logic.proofs.RawArguments.{IsTermOf, operator_of, own_terms}
use Rattle.mw_sorting.specs.ComputedSorts.{ComputedSort, number_sort, plain_sort, chain_sort, ComputedSorts, no_sorts, more_sorts, Folds, last, IsResultOn}
use Rattle.mw_sorting.specs.PreregularModulo.{IsPreregularModulo}
use Rattle.mw_sorting.proofs.Results.{result_swapped}
use Rattle.mw_sorting.proofs.Folding.{fold_join, fold_sorted}
use Rattle.mw_sorting.proofs.Forms.{sort_kind}

module _ (sig : Signature) (ok : IsPreregularModulo sig) where
  -- a computed sort of t is at or below Q
  abbrev pub Lower : RawTerm → Sorted → Type 0
  Lower t Q = (R : Sorted) × ComputedSort sig t R × IsBelow sig R Q

  exact : {t : RawTerm} (Q : Sorted) → ComputedSort sig t Q → Lower t Q
  exact Q s = (Q, s, IsBelow-refl sig Q)

  module _ (f : ℕ) (o : Operator) (is : IsOperator sig f o) where
    counted_sort : is_assoc sig f ≡ false → (ts : RawTerms) (Ss : List Sorted) (Q : Sorted) → ComputedSorts sig ts Ss → IsResultOn sig o Ss Q → ComputedSort sig (counted (is_successor sig f) f ts) Q
    counted_sort h nil Ss Q ss q = plain_sort o is h ss q
    counted_sort h (cons (quoted x) nil) Ss Q ss q = plain_sort o is h ss q
    counted_sort h (cons (variable x) nil) Ss Q ss q = plain_sort o is h ss q
    counted_sort h (cons (apply g ts) nil) Ss Q ss q = plain_sort o is h ss q
    counted_sort h (cons t (cons u us)) Ss Q ss q = plain_sort o is h ss q
    counted_sort h (cons (numeral n) nil) [] Q ss q = elim ss [ ]
    counted_sort h (cons (numeral n) nil) (S ∷ (T ∷ Ts)) Q (more_sorts s rest) q = elim rest [ ]
    counted_sort h (cons (numeral n) nil) (S ∷ []) Q (more_sorts s no_sorts) q = by_test (is_successor sig f && nat_lt (suc n) (2 ^ 128)) refl
      where
        by_test : (b : Bool) → (is_successor sig f && nat_lt (suc n) (2 ^ 128)) ≡ b → ComputedSort sig (cond b (numeral (suc n)) (apply f (cons (numeral n) nil))) Q
        by_test false e = plain_sort o is h (more_sorts s no_sorts) q
        by_test true e =
            let k : IsSuccessor sig f = is_successor-sound sig f (and_parts _ _ e).0 in
            number_sort f k s (operator_of sig f (λ o. IsResultOn sig o (S ∷ []) Q) k.is_there is q)

    -- the two arguments of a commutative operator in order
    in_order : (c : Bool) → is_comm sig f ≡ c → is_assoc sig f ≡ false → (ts : RawTerms) (Ss : List Sorted) (Q : Sorted) → ComputedSorts sig ts Ss → IsResultOn sig o Ss Q → AreRawTerms sig (all_nested sig ts) o.args
        → ComputedSort sig (counted (is_successor sig f) f (arranged c ts)) Q
    in_order false e h ts Ss Q ss q r = counted_sort h ts Ss Q ss q
    in_order true e h ts Ss Q ss q r =
        let (p, there, c) = comm_operator sig f e in
        let c2 : IsTrue o.comm = operator_of sig f (λ o. IsTrue o.comm) is there c in
        let (K, L, a, k) = ok.accepted.comm f o is c2 in
        two c2 ts Ss ss q (subst (AreRawTerms sig (all_nested sig ts)) a r)
      where
        two : IsTrue o.comm → {K L : ℕ} → (ts : RawTerms) (Ss : List Sorted) → ComputedSorts sig ts Ss → IsResultOn sig o Ss Q → AreRawTerms sig (all_nested sig ts) (K ∷ L ∷ []) → ComputedSort sig (counted (is_successor sig f) f (sorted_terms ts)) Q
        two c nil Ss ss q r = elim r [ ]
        two c (cons x nil) Ss ss q (next t i rest) = elim rest [ ]
        two c (cons x (cons y (cons z zs))) Ss ss q (next t i (next u j rest)) = elim rest [ ]
        two c (cons x (cons y nil)) [] ss q r = elim ss [ ]
        two c (cons x (cons y nil)) (S ∷ []) (more_sorts s rest) q r = elim rest [ ]
        two c (cons x (cons y nil)) (S ∷ T ∷ U ∷ Us) (more_sorts s (more_sorts t rest)) q r = elim rest [ ]
        two c (cons x (cons y nil)) (S ∷ T ∷ []) (more_sorts s (more_sorts u no_sorts)) q r = by_test (stands_after x y)
          where
            by_test : (b : Bool) → ComputedSort sig (counted (is_successor sig f) f (cond b (cons y (cons x nil)) (cons x (cons y nil)))) Q
            by_test false = counted_sort h (cons x (cons y nil)) (S ∷ T ∷ []) Q (more_sorts s (more_sorts u no_sorts)) q
            by_test true = counted_sort h (cons y (cons x nil)) (T ∷ S ∷ []) Q (more_sorts u (more_sorts s no_sorts)) (result_swapped sig ok.well_sorted f o is c S T Q q)

    module _ (h : is_assoc sig f ≡ true) (a : IsTrue o.assoc) where
      abbrev K : ℕ
      K = o.result

      abbrev P : RawTerm → Type 0
      P = IsTermOf sig K

      abbrev Gives : Sorted → Sorted → Sorted → Type 0
      Gives S T R = IsResultOn sig o (S ∷ T ∷ []) R

      -- a term's own arguments have its sort folded
      own_fold : (x : RawTerm) (S : Sorted) → ComputedSort sig x S → Folds sig o (own_arguments f x) S
      own_fold (numeral n) S s = last s
      own_fold (quoted q) S s = last s
      own_fold (variable x) S s = last s
      own_fold (apply g nil) S s = last s
      own_fold (apply g (cons t ts)) S s = by_test (nat_eq f g) refl
        where
          chained : f ≡ g → ComputedSort sig (apply g (cons t ts)) S → Folds sig o (cons t ts) S
          chained e (plain_sort p is2 h2 ss q) = absurd (both_ways _ (subst (λ g. is_assoc sig g ≡ false) (sym e) h2) h)
          chained e (chain_sort p is2 h2 q) = operator_of sig f (λ o. Folds sig o (cons t ts) S) is (subst (λ g. IsOperator sig g p) (sym e) is2) q

          by_test : (b : Bool) → nat_eq f g ≡ b → Folds sig o (cond b (cons t ts) (cons (apply g (cons t ts)) nil)) S
          by_test false e = last s
          by_test true e = chained (eqb-true f g e) s

      arranged_fold : (c : Bool) → is_comm sig f ≡ c → (ts : RawTerms) (R : Sorted) → Each P ts → Folds sig o ts R → (V : Sorted) × Folds sig o (arranged c ts) V × IsBelow sig V R
      arranged_fold false e ts R p q = (R, q, IsBelow-refl sig R)
      arranged_fold true e ts R p q =
          let (p2, there, c) = comm_operator sig f e in
          let c2 : IsTrue o.comm = operator_of sig f (λ o. IsTrue o.comm) is there c in
          fold_sorted sig ok f o is a c2 ts R p q

      pair_sort : (x y : RawTerm) (S T Q : Sorted) → IsCanonical sig x → IsCanonical sig y → P x → P y → ComputedSort sig x S → ComputedSort sig y T → Gives S T Q → Lower (applied_in sig f (cons x (cons y nil))) Q
      pair_sort x y S T Q kx ky px py s t q = by_made (made sig ok.accepted f h x y kx ky)
        where
          -- the identity's sort
          of_identity : (z : RawTerm) (Z : Sorted) → is_identity (identity_of sig f) z ≡ true → ComputedSort sig z Z → (i : Identity) × (o.identity ≡ Some i) × ComputedSort sig (identity_term i) Z
          of_identity z Z n sz = by_option (identity_of sig f) refl n
            where
              by_option : (e : Option Identity) → identity_of sig f ≡ e → is_identity e z ≡ true → (i : Identity) × (o.identity ≡ Some i) × ComputedSort sig (identity_term i) Z
              by_option None e n = cc
              by_option (Some i) e n =
                  let (p, there, w) = identity_operator sig f i e in
                  (i, operator_of sig f (λ o. o.identity ≡ Some i) is there w, subst (λ z. ComputedSort sig z Z) (named (Some i) f z n) sz)

          by_made : Made sig ok.accepted f x y → Lower (applied_in sig f (cons x (cons y nil))) Q
          by_made (inl m) =
              let (i, w, si) = of_identity x S m.0 s in
              subst (λ t. Lower t Q) (sym m.1) (T, t, (ok.identity f o i is w S T Q si (sort_kind sig ok.accepted ok.well_sorted K y T py t)).0 q)
          by_made (inr (inl m)) =
              let (i, w, si) = of_identity y T m.0 t in
              subst (λ t. Lower t Q) (sym m.1) (S, s, (ok.identity f o i is w T S Q si (sort_kind sig ok.accepted ok.well_sorted K x S px s)).1 q)
          by_made (inr (inr m)) =
              let ex = own_terms sig ok.accepted f o is h x px in
              let ey = own_terms sig ok.accepted f o is h y py in
              let (V, v, lv) = fold_join sig ok f o is a ex ey (own_fold x S s) (own_fold y T t) q in
              let (W, w, lw) = arranged_fold (is_comm sig f) refl (join (own_arguments f x) (own_arguments f y)) V (Each-join P (own_arguments f x) (own_arguments f y) ex ey) v in
              subst (λ t. Lower t Q) (sym m) (W, chain_sort o is h w, IsBelow-trans sig W V Q lw lv)

    -- over canonical terms
    pub applied_sort : (ts : RawTerms) (Ss : List Sorted) (Q : Sorted) → AreCanonical sig ts → AreRawTerms sig (all_nested sig ts) o.args → ComputedSorts sig ts Ss → IsResultOn sig o Ss Q → Lower (applied_in sig f ts) Q
    applied_sort ts Ss Q k r ss q = by_assoc (is_assoc sig f) refl
      where
        pair : is_assoc sig f ≡ true → IsTrue o.assoc → {A B : ℕ} → (ts : RawTerms) (Ss : List Sorted) → AreCanonical sig ts → AreRawTerms sig (all_nested sig ts) (A ∷ B ∷ []) → SameKind sig A o.result → SameKind sig B o.result
            → ComputedSorts sig ts Ss → IsResultOn sig o Ss Q → Lower (applied_in sig f ts) Q
        pair h a nil Ss k r p p2 ss q = elim r [ ]
        pair h a (cons x nil) Ss k (next r i rest) p p2 ss q = elim rest [ ]
        pair h a (cons x (cons y (cons z zs))) Ss k (next r i (next u j rest)) p p2 ss q = elim rest [ ]
        pair h a (cons x (cons y nil)) [] k r p p2 ss q = elim ss [ ]
        pair h a (cons x (cons y nil)) (S ∷ []) k r p p2 (more_sorts s rest) q = elim rest [ ]
        pair h a (cons x (cons y nil)) (S ∷ T ∷ U ∷ Us) k r p p2 (more_sorts s (more_sorts t rest)) q = elim rest [ ]
        pair h a (cons x (cons y nil)) (S ∷ T ∷ []) k (next r i (next u j end)) p p2 (more_sorts s (more_sorts t no_sorts)) q =
            pair_sort h a x y S T Q k.0 k.1.0 (r, HasKind-same i p) (u, HasKind-same j p2) s t q

        by_assoc : (b : Bool) → is_assoc sig f ≡ b → Lower (applied_in sig f ts) Q
        by_assoc false h = rw h (exact Q (in_order (is_comm sig f) refl h ts Ss Q ss q r))
        by_assoc true h =
            let a : IsTrue o.assoc = is_associative sig ok.accepted f o is h in
            let (A, B, e, p, p2) = ok.accepted.assoc f o is a in
            pair h a ts Ss k (subst (AreRawTerms sig (all_nested sig ts)) e r) p p2 ss q
