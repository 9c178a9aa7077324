-- An associative operator over the sorts of terms, up to the order of sorts: over joined lists of terms, and over lists
-- in order where it is commutative.
use Rattle.std.specs.Prelude.{[], ◌∷◌, ℕ, Bool, true, false, cond, IsTrue}
use Rattle.std.proofs.Common.{sym, subst}
use Rattle.mw_logic.specs.Term.{RawTerm, RawTerms, nil, cons, join}
use Rattle.mw_logic.specs.Signature.{Signature, Sorted, Operator, IsOperator}
use Rattle.mw_logic.specs.Sorts.{IsBelow}
use Rattle.mw_logic.specs.Preregular.{AreOfKinds}
use Rattle.mw_logic.specs.TermOrder.{stands_after, insert_term, sorted_terms}
use Rattle.mw_logic.proofs.KindLaws.{SameKind-trans, SameKind-sym}
use Rattle.mw_logic.proofs.BelowLaws.{IsBelow-refl, IsBelow-trans}
use Rattle.mw_logic.proofs.Canonical.{Each, Each-join, Each-insert, Each-arranged}
use Rattle.mw_logic.proofs.RawArguments.{IsTermOf}
use Rattle.mw_sorting.specs.ComputedSorts.{ComputedSort, Folds, last, before, IsResultOn}
use Rattle.mw_sorting.specs.PreregularModulo.{IsOfKind, IsPreregularModulo}
use Rattle.mw_sorting.proofs.Results.{result_kind, result_monotone, result_swapped}
use Rattle.mw_sorting.proofs.Forms.{sort_kind}

module _ (sig : Signature) (ok : IsPreregularModulo sig) (f : ℕ) (o : Operator) (is : IsOperator sig f o) (a : IsTrue o.assoc) where
  abbrev In : Sorted → Type 0
  In = IsOfKind sig o.result

  abbrev P : RawTerm → Type 0
  P = IsTermOf sig o.result

  abbrev Below : Sorted → Sorted → Type 0
  Below = IsBelow sig

  -- R is the operator's result on S and T
  abbrev Gives : Sorted → Sorted → Sorted → Type 0
  Gives S T R = IsResultOn sig o (S ∷ T ∷ []) R

  gives_in : {S T R : Sorted} → Gives S T R → In R
  gives_in {S} {T} {R} r = result_kind sig ok.well_sorted f o is (S ∷ T ∷ []) R r

  monotone : (S T R S2 T2 R2 : Sorted) → Gives S T R → Below S2 S → Below T2 T → Gives S2 T2 R2 → Below R2 R
  monotone S T R S2 T2 R2 r b d q = result_monotone sig ok.well_sorted f o is (S2 ∷ T2 ∷ []) (S ∷ T ∷ []) R2 R r (b, (d, tt)) q

  exists : (S T : Sorted) → In S → In T → (R : Sorted) × Gives S T R × In R
  exists S T i j =
      let (A, B, e, p, q) = ok.accepted.assoc f o is a in
      let kinds : AreOfKinds sig (S ∷ T ∷ []) o.args = subst (AreOfKinds sig (S ∷ T ∷ [])) (sym e) (SameKind-trans i (SameKind-sym p), (SameKind-trans j (SameKind-sym q), tt)) in
      let (R, r) = ok.results f o is (S ∷ T ∷ []) kinds in
      (R, r, gives_in r)

  inside : (t : RawTerm) (S : Sorted) → P t → ComputedSort sig t S → In S
  inside t S p s = sort_kind sig ok.accepted ok.well_sorted o.result t S p s

  fold_inside : {ts : RawTerms} {R : Sorted} → Each P ts → Folds sig o ts R → In R
  fold_inside p (last s) = inside _ _ p.0 s
  fold_inside p (before s g r) = gives_in r

  associative : (S T U M N V W : Sorted) → In S → In T → In U → Gives S T M → Gives M U V → Gives T U N → Gives S N W → Below V W × Below W V
  associative S T U M N V W = ok.associative f o is a S T U M N V W

  -- one more in front
  front : (t : RawTerm) (S : Sorted) {us : RawTerms} {Q R : Sorted} → ComputedSort sig t S → Folds sig o us Q → Gives S Q R → Folds sig o (cons t us) R
  front t S s (last u) r = before s (last u) r
  front t S s (before u f q) r = before s (before u f q) r

  -- over joined lists: not above the result on both
  pub fold_join : {ts us : RawTerms} {N Q R : Sorted} → Each P ts → Each P us → Folds sig o ts N → Folds sig o us Q → Gives N Q R → (V : Sorted) × Folds sig o (join ts us) V × Below V R
  fold_join {R = R} a b (last {t = t} {S} s) g r = (R, front t S s g r, IsBelow-refl sig R)
  fold_join {us = ws} {N = N} {Q} {R} ea eb (before {t = t} {u = u} {us = us} {S = S} {Q = P2} s f p) g r =
      let iq : In Q = fold_inside eb g in
      let ip : In P2 = fold_inside ea.1 f in
      let i : In S = inside t S ea.0 s in
      let (R1, r1, i1) = exists P2 Q ip iq in
      let (V1, g1, l1) = fold_join ea.1 eb f g r1 in
      let e1 : Each P (join (cons u us) ws) = Each-join P (cons u us) ws ea.1 eb in
      let (V, v, iv) = exists S V1 i (fold_inside e1 g1) in
      let (W, w, iw) = exists S R1 i i1 in
      let a : Below V W = monotone S R1 W S V1 V w (IsBelow-refl sig S) l1 v in
      let b : Below W R = (associative S P2 Q N R1 R W i ip iq p r r1 w).1 in
      (V, front t S s g1 v, IsBelow-trans sig V W R a b)

  module _ (c : IsTrue o.comm) where
    commutative : (S T R : Sorted) → Gives S T R → Gives T S R
    commutative S T R r = result_swapped sig ok.well_sorted f o is c S T R r

    fold_insert : (t : RawTerm) (us : RawTerms) (R : Sorted) → P t → Each P us → Folds sig o (cons t us) R → (V : Sorted) × Folds sig o (insert_term t us) V × Below V R
    fold_insert t nil R pt pu f = (R, f, IsBelow-refl sig R)
    fold_insert t (cons u us) R pt pu f = by_test us pu.1 (stands_after t u) (λ Q. fold_insert t us Q pt pu.1) f
      where
        by_test : (us : RawTerms) → Each P us → (b : Bool) → ((Q : Sorted) → Folds sig o (cons t us) Q → (V : Sorted) × Folds sig o (insert_term t us) V × Below V Q) → Folds sig o (cons t (cons u us)) R
            → (V : Sorted) × Folds sig o (cond b (cons u (insert_term t us)) (cons t (cons u us))) V × Below V R
        by_test us e false ih f = (R, f, IsBelow-refl sig R)
        by_test nil e true ih (before {S = S} s (last {S = T} v) r) = (R, before v (last s) (commutative S T R r), IsBelow-refl sig R)
        by_test (cons x xs) e true ih (before {S = S} s (before {S = T} {Q = Q} v g q) r) =
            let is : In S = inside t S pt s in
            let it : In T = inside u T pu.0 v in
            let iq : In Q = fold_inside e g in
            let (N, p, ip) = exists S Q is iq in
            let (V1, g1, l1) = ih N (before s g p) in
            let (V, w, iv) = exists T V1 it (fold_inside (Each-insert P t (cons x xs) pt e) g1) in
            let (W, y, iw) = exists T N it ip in
            let a : Below V W = monotone T N W T V1 V y (IsBelow-refl sig T) l1 w in
            -- T (S Q) = (T S) Q = (S T) Q = S (T Q)
            let (M, m, im) = exists T S it is in
            let (X, x', ix) = exists M Q im iq in
            let b : Below W X = (associative T S Q M N X W it is iq m x' p y).1 in
            let d : Below X R = (associative S T Q M _ X R is it iq (commutative T S M m) x' q r).0 in
            (V, front u T v g1 w, IsBelow-trans sig V W R a (IsBelow-trans sig W X R b d))

    -- over the list in order: not above that over the list
    pub fold_sorted : (ts : RawTerms) (R : Sorted) → Each P ts → Folds sig o ts R → (V : Sorted) × Folds sig o (sorted_terms ts) V × Below V R
    fold_sorted nil R e f = (R, f, IsBelow-refl sig R)
    fold_sorted (cons t nil) R e f = (R, f, IsBelow-refl sig R)
    fold_sorted (cons t (cons u us)) R e (before {S = S} {Q = Q} s g r) =
        let (V1, g1, l1) = fold_sorted (cons u us) Q e.1 g in
        let e1 : Each P (sorted_terms (cons u us)) = Each-arranged P true (cons u us) e.1 in
        let (V2, r2, i2) = exists S V1 (inside t S e.0 s) (fold_inside e1 g1) in
        let a : Below V2 R = monotone S Q R S V1 V2 r (IsBelow-refl sig S) l1 r2 in
        let (V, h, l) = fold_insert t (sorted_terms (cons u us)) V2 e.0 e1 (front t S s g1 r2) in
        (V, h, IsBelow-trans sig V V2 R l a)
