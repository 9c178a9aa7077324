-- The values of a solution are parts of what was matched, or leaves: an identity, or a numeral.
use Rattle.std.specs.Prelude.{◌≡◌, ◌⊎◌, ℕ, List, [], ◌++◌, Bool, true, false, ◌||◌, Option, Some, None, IsTrue, refl}
use Rattle.std.proofs.Common.{sym, subst, ap, ◌∙◌, inl, inr, ⊎_elim, true≢false}
use Rattle.mw_logic.specs.Term.{Variable, RawTerm, numeral, quoted, variable, apply, constant, RawTerms, nil, cons, join, Context}
use Rattle.mw_logic.specs.Signature.{Signature, Identity, constant_of, numeral_of, identity_term, IsRawTerm, AreRawTerms, next}
use Rattle.mw_logic.specs.Axioms.{EqualModulo}
use Rattle.mw_logic.specs.Accepted.{IsAccepted}
use Rattle.mw_logic.specs.Substitution.{Substitution, value, instance, instances, occurs, occurs_in}
use Rattle.mw_logic.specs.Parts.{is_assoc, nested, Among, IsPart}
use Rattle.mw_logic.specs.Kinds.{is_successor}
use Rattle.mw_logic.specs.NormalForm.{is_comm, identity_of, is_identity, own_arguments, elements, flattened, rebuilt, arranged, successor_of, counted, applied, applied_in, normal_form, normal_forms}
use Rattle.mw_logic.specs.CanonicalPart.{AreSeveral, IsOpen, IsPartOf}
use Rattle.mw_logic.specs.CanonicalPart as part
use Rattle.mw_logic.proofs.SortLaws.{join_assoc}
use Rattle.mw_logic.proofs.Canonical.{IsCanonical, canonical, named}
use Rattle.mw_logic.proofs.Invariance.{normal_form-kept}
use Rattle.mw_logic.proofs.Soundness.{normal_form-sound, several-arranged, rebuilt-several}
use Rattle.mw_logic.proofs.RawKept.{raw_kept}
use Rattle.mw_logic.proofs.CanonicalTerms.{fixed, clean, clean_form}
use Rattle.mw_logic.proofs.Inside.{OwnCases, own_cases, associative, Among-arranged, Among-right, raw_arguments}
use Rattle.mw_logic.proofs.PartsOfNormalForm.{part_kept, part_found}
use Rattle.mw_logic.proofs.Frozen.{IsOpenContext}
use Rattle.std.proofs.lemmas.Bool.{eqb-true, and_parts}
use Rattle.std.proofs.lemmas.Slice.Eq.{bytes_eq-Decides}
use Rattle.mw_logic.specs.Substitution.{same_variable}
use Rattle.mw_deduction.proofs.NormalParts.{part_within}

same_is : (x y : Variable) → same_variable x y ≡ true → x ≡ y
same_is x y h =
    let p = and_parts _ _ h in
    let n : x.name ≡ y.name = (bytes_eq-Decides x.name y.name).0 p.0 in let s : x.sort ≡ y.sort = eqb-true _ _ p.1 in rw (n, s) refl

among_split : (ts : RawTerms) (v : RawTerm) → Among ts v → (b : RawTerms) × (a : RawTerms) × (ts ≡ join b (cons v a))
among_split nil v m = absurd m
among_split (cons t ts) v (inl e) = (nil, ts, ap (λ x. cons x ts) e)
among_split (cons t ts) v (inr m) = let (b, a, h) = among_split ts v m in (cons t b, a, ap (cons t) h)

flattened-join : (e : Option Identity) (f : ℕ) (ts us : RawTerms) → flattened e f (join ts us) ≡ join (flattened e f ts) (flattened e f us)
flattened-join e f nil us = refl
flattened-join e f (cons t ts) us = ap (join (elements e f t)) (flattened-join e f ts us) ∙ sym (join_assoc (elements e f t) (flattened e f ts) (flattened e f us))

-- an identity of some operator, or a numeral
pub data IsLeaf (sig : Signature) : RawTerm → Type 0 where
  of_identity : (f : ℕ) (i : Identity) → identity_of sig f ≡ Some i → IsLeaf sig (identity_term i)
  of_numeral : {n : ℕ} → IsLeaf sig (numeral n)

-- v is a part of t, or a leaf
abbrev pub Lies : Signature → RawTerm → RawTerm → Type 0
Lies sig t v = IsPartOf sig false t v ⊎ IsLeaf sig v

open_all : (sig : Signature) (f i : ℕ) → IsOpen sig false f i
open_all sig f i = λ h. absurd (true≢false (sym h))

at_argument : (sig : Signature) (f : ℕ) (ts : RawTerms) (v : RawTerm) → Among ts v → IsPartOf sig false (apply f ts) v
at_argument sig f ts v m = let (b, a, h) = among_split ts v m in subst (λ x. IsPartOf sig false (apply f x) v) (sym h) (part.argument f b v a (open_all sig f _) part.whole)

module _ (sig : Signature) (ok : IsAccepted sig) where
  leaf_of : (e : Option Identity) (f : ℕ) → identity_of sig f ≡ e → (v : RawTerm) → is_identity e v ≡ true → IsLeaf sig v
  leaf_of None f h v k = absurd (true≢false (sym k))
  leaf_of (Some i) f h v k = subst (IsLeaf sig) (sym (named (Some i) f v k)) (of_identity f i h)

  -- one argument of an associative operator
  in_list : (f : ℕ) → is_assoc sig f ≡ true → (b : RawTerms) (v : RawTerm) (a : RawTerms) → OwnCases sig ok f v → (t : RawTerm) → t ≡ rebuilt (identity_of sig f) f (arranged (is_comm sig f) (flattened (identity_of sig f) f (join b (cons v a)))) → Lies sig t v
  in_list f h b v a own t e = by_test (is_identity (identity_of sig f) v) refl
    where
      several_found : (B A : RawTerms) → AreSeveral (own_arguments f v) → v ≡ apply f (own_arguments f v) → arranged (is_comm sig f) (own_arguments f v) ≡ own_arguments f v
          → IsPartOf sig false (rebuilt (identity_of sig f) f (arranged (is_comm sig f) (join B (join (own_arguments f v) A)))) v
      several_found B A l is o =
          let zs : RawTerms = own_arguments f v in
          let m : AreSeveral (join B (join zs A)) = more B (join zs A) (before zs A l) in
          let k : rebuilt (identity_of sig f) f (arranged (is_comm sig f) (join B (join zs A))) ≡ apply f (arranged (is_comm sig f) (join B (join zs A))) = rebuilt-several (identity_of sig f) f _ (several-arranged (is_comm sig f) _ m) in
          subst (λ x. IsPartOf sig false x v) (sym k) (subst (λ y. IsPartOf sig false (apply f (arranged (is_comm sig f) (join B (join zs A)))) y) (sym is) (part.several (associative sig ok f h) (open_all sig f 1) l (record { before = B; after = A; whole = refl; in_order = o })))
        where
          before : (xs ys : RawTerms) → AreSeveral xs → AreSeveral (join xs ys)
          before nil ys l = elim l [ ]
          before (cons x nil) ys l = elim l [ ]
          before (cons x (cons y xs)) ys l = tt

          more : (xs ys : RawTerms) → AreSeveral ys → AreSeveral (join xs ys)
          more nil ys l = l
          more (cons x nil) ys l = shifted ys l
            where
              shifted : (ys : RawTerms) → AreSeveral ys → AreSeveral (cons x ys)
              shifted nil l = elim l [ ]
              shifted (cons y ys) l = tt
          more (cons x (cons y xs)) ys l = tt

      single_found : (B A : RawTerms) → IsPartOf sig false (rebuilt (identity_of sig f) f (arranged (is_comm sig f) (join B (cons v A)))) v
      single_found nil nil = alone (is_comm sig f)
        where
          alone : (c : Bool) → IsPartOf sig false (rebuilt (identity_of sig f) f (arranged c (cons v nil))) v
          alone true = part.whole
          alone false = part.whole
      single_found nil (cons x A) = listed nil (cons x A) tt
        where
          listed : (B A : RawTerms) → AreSeveral (join B (cons v A)) → IsPartOf sig false (rebuilt (identity_of sig f) f (arranged (is_comm sig f) (join B (cons v A)))) v
          listed B A m =
              let k : rebuilt (identity_of sig f) f (arranged (is_comm sig f) (join B (cons v A))) ≡ apply f (arranged (is_comm sig f) (join B (cons v A))) = rebuilt-several (identity_of sig f) f _ (several-arranged (is_comm sig f) _ m) in
              subst (λ x. IsPartOf sig false x v) (sym k) (at_argument sig f _ v (Among-arranged (is_comm sig f) v (join B (cons v A)) (Among-right v B (cons v A) (inl refl))))
      single_found (cons x B) A = listed (cons x B) A (two B)
        where
          two : (B : RawTerms) → AreSeveral (cons x (join B (cons v A)))
          two nil = tt
          two (cons y B) = tt

          listed : (B A : RawTerms) → AreSeveral (join B (cons v A)) → IsPartOf sig false (rebuilt (identity_of sig f) f (arranged (is_comm sig f) (join B (cons v A)))) v
          listed B A m =
              let k : rebuilt (identity_of sig f) f (arranged (is_comm sig f) (join B (cons v A))) ≡ apply f (arranged (is_comm sig f) (join B (cons v A))) = rebuilt-several (identity_of sig f) f _ (several-arranged (is_comm sig f) _ m) in
              subst (λ x. IsPartOf sig false x v) (sym k) (at_argument sig f _ v (Among-arranged (is_comm sig f) v (join B (cons v A)) (Among-right v B (cons v A) (inl refl))))

      by_own : is_identity (identity_of sig f) v ≡ false → OwnCases sig ok f v → IsPartOf sig false t v
      by_own n own =
          let B : RawTerms = flattened (identity_of sig f) f b in
          let A : RawTerms = flattened (identity_of sig f) f a in
          let q : flattened (identity_of sig f) f (join b (cons v a)) ≡ join B (join (own_arguments f v) A) = flattened-join (identity_of sig f) f b (cons v a) ∙ rw (n) refl in
          let z : t ≡ rebuilt (identity_of sig f) f (arranged (is_comm sig f) (join B (join (own_arguments f v) A))) = e ∙ ap (λ L. rebuilt (identity_of sig f) f (arranged (is_comm sig f) L)) q in
          subst (λ x. IsPartOf sig false x v) (sym z) (⊎_elim (λ o. rw (o) (single_found B A)) (λ o. several_found B A o.1 o.0 o.2) own)

      by_test : (c : Bool) → is_identity (identity_of sig f) v ≡ c → Lies sig t v
      by_test true n = inr (leaf_of (identity_of sig f) f refl v n)
      by_test false n = inl (by_own n own)

  -- one argument of another operator
  in_plain : (f : ℕ) (s : Bool) (ts : RawTerms) (v : RawTerm) → Among ts v → Lies sig (counted s f ts) v
  in_plain f s nil v m = absurd m
  in_plain f s (cons t nil) v (inr m) = absurd m
  in_plain f s (cons t nil) v (inl e) = subst (Lies sig (successor_of s f t)) e (of_one t)
    where
      of_one : (t : RawTerm) → Lies sig (successor_of s f t) t
      of_one (numeral n) = inr of_numeral
      of_one (quoted q) = inl (at_argument sig f (cons (quoted q) nil) (quoted q) (inl refl))
      of_one (variable x) = inl (at_argument sig f (cons (variable x) nil) (variable x) (inl refl))
      of_one (apply g us) = inl (at_argument sig f (cons (apply g us) nil) (apply g us) (inl refl))
  in_plain f s (cons t (cons u us)) v m = inl (at_argument sig f (cons t (cons u us)) v m)

  -- an argument's normal form is a part of the operator's, or a leaf
  pub argument_lies : (f : ℕ) (b : RawTerms) (v : RawTerm) (a : RawTerms) → ((h : is_assoc sig f ≡ true) → OwnCases sig ok f v) → Lies sig (applied_in sig f (join b (cons v a))) v
  argument_lies f b v a own = by_assoc (is_assoc sig f) refl
    where
      by_assoc : (m : Bool) → is_assoc sig f ≡ m → Lies sig (applied m (is_comm sig f) (is_successor sig f) (identity_of sig f) f (join b (cons v a))) v
      by_assoc true h = in_list f h b v a (own h) _ refl
      by_assoc false h = in_plain f (is_successor sig f) (arranged (is_comm sig f) (join b (cons v a))) v (Among-arranged (is_comm sig f) v (join b (cons v a)) (Among-right v b (cons v a) (inl refl)))

-- a leaf has no other part
leaf_alone : (sig : Signature) (v w : RawTerm) → IsLeaf sig v → IsPartOf sig false v w → w ≡ v
leaf_alone sig v w l part.whole = refl
leaf_alone sig v w l (part.argument f b t a o p) = absurd (of_leaf l refl)
  where
    no : (f c : ℕ) (b : RawTerms) (t : RawTerm) (a : RawTerms) → constant c ≡ apply f (join b (cons t a)) → ⊥
    no f c nil t a e = cc
    no f c (cons x b) t a e = cc

    of_leaf : {v : RawTerm} → IsLeaf sig v → v ≡ apply f (join b (cons t a)) → ⊥
    of_leaf (of_identity g (constant_of c) h) e = no f c b t a e
    of_leaf (of_identity g (numeral_of n) h) e = cc
    of_leaf of_numeral e = cc
leaf_alone sig v w l (part.several {f = f} {ts = ts} {us = us} A o m c) = absurd (of_leaf l refl)
  where
    listed : (c : Bool) (B us' A' : RawTerms) → AreSeveral us' → arranged c (join B (join us' A')) ≡ nil → ⊥
    listed c B nil A' l e = elim l [ ]
    listed c B (cons u us') A' l e = empty (arranged c (join B (cons u (join us' A')))) (Among-arranged c u (join B (cons u (join us' A'))) (Among-right u B (cons u (join us' A')) (inl refl))) e
      where
        empty : (xs : RawTerms) → Among xs u → xs ≡ nil → ⊥
        empty nil m e = m
        empty (cons x xs) m e = cc

    of_leaf : {v : RawTerm} → IsLeaf sig v → v ≡ apply f ts → ⊥
    of_leaf (of_identity g (constant_of d) h) e = let k : ts ≡ nil = cc in listed (is_comm sig f) c.before us c.after m (c.whole ∙ k)
    of_leaf (of_identity g (numeral_of n) h) e = cc
    of_leaf of_numeral e = cc

module _ (sig : Signature) (ok : IsAccepted sig) (s : Substitution) where
  -- u's normal form is a part of T, or a leaf
  abbrev pub IsFound : RawTerm → RawTerm → Type 0
  IsFound T u = ((C : Context) × IsPart sig T C (nested sig (normal_form sig u))) ⊎ IsLeaf sig (normal_form sig u)

  own_of : (v : RawTerm) → IsCanonical sig v → IsRawTerm sig (nested sig v) → (f : ℕ) → is_assoc sig f ≡ true → OwnCases sig ok f v
  own_of v k r f h = subst (OwnCases sig ok f) (fixed sig ok v k) (own_cases sig ok f h (nested sig v) r (clean sig ok v k))

  open_always : (C : Context) → IsOpenContext sig false C
  open_always C = λ h. absurd (true≢false (sym h))

  -- what is found in an argument's instance is found in the whole
  into : (T q u : RawTerm) → IsRawTerm sig T → IsRawTerm sig q → Lies sig (normal_form sig T) (normal_form sig q) → ((V : RawTerm) → IsRawTerm sig V → EqualModulo sig q V → IsFound V u) → IsFound T u
  into T q u rT rq (inl p) found =
      let (C, o, is) = part_found sig ok (normal_form sig q) rT p in
      let e : EqualModulo sig q (nested sig (normal_form sig q)) = normal_form-sound sig ok rq in
      ⊎_elim (λ h. inl (h.0 ++ C, part_within sig ok C h.0 (nested sig (normal_form sig q)) _ rT is h.1)) inr (found (nested sig (normal_form sig q)) ((raw_kept sig ok e).0 rq) e)
  into T q u rT rq (inr l) found =
      let e : EqualModulo sig q (nested sig (normal_form sig q)) = normal_form-sound sig ok rq in
      let rV : IsRawTerm sig (nested sig (normal_form sig q)) = (raw_kept sig ok e).0 rq in
      ⊎_elim (λ h. inr (alone (h.0) rV h.1)) inr (found (nested sig (normal_form sig q)) rV e)
    where
      alone : (D : Context) → IsRawTerm sig (nested sig (normal_form sig q)) → IsPart sig (nested sig (normal_form sig q)) D (nested sig (normal_form sig u)) → IsLeaf sig (normal_form sig u)
      alone D rV p =
          let a : IsPartOf sig false (normal_form sig (nested sig (normal_form sig q))) (normal_form sig (nested sig (normal_form sig u))) = part_kept sig ok D _ (open_always D) rV p in
          let b : IsPartOf sig false (normal_form sig q) (normal_form sig u) =
          subst (λ x. IsPartOf sig false x (normal_form sig u)) (fixed sig ok (normal_form sig q) (canonical sig ok q)) (subst (IsPartOf sig false (normal_form sig (nested sig (normal_form sig q)))) (fixed sig ok (normal_form sig u) (canonical sig ok u)) a) in
          subst (IsLeaf sig) (sym (leaf_alone sig (normal_form sig q) (normal_form sig u) l b)) l

  mutual
    -- each variable of a pattern has such a value
    pub value_found : (p T : RawTerm) (x : Variable) (u : RawTerm) → IsRawTerm sig T → IsRawTerm sig (instance s p) → EqualModulo sig (instance s p) T → IsTrue (occurs x p) → value s x ≡ Some u → IsFound T u
    value_found (numeral n) T x u rT rp e o h = absurd (true≢false (sym o))
    value_found (quoted q) T x u rT rp e o h = absurd (true≢false (sym o))
    value_found (variable y) T x u rT rp e o h =
        let k : y ≡ x = same_is y x o in
        let v : instance s (variable y) ≡ u = rw (k, h) refl in
        let n : normal_form sig T ≡ normal_form sig u = sym (normal_form-kept sig ok e) ∙ ap (normal_form sig) v in
        inl ([], subst (λ w. IsPart sig T [] (nested sig w)) n (clean_form sig ok rT))
    value_found (apply f qs) T x u rT rp e o h =
        let (Ks, rs) = raw_arguments sig ok rp in
        let n : normal_form sig T ≡ applied_in sig f (normal_forms sig (instances s qs)) = sym (normal_form-kept sig ok e) in
        value_found_in f nil qs Ks T x u rT rs n o h

    value_found_in : (f : ℕ) (b qs : RawTerms) (Ks : List ℕ) (T : RawTerm) (x : Variable) (u : RawTerm) → IsRawTerm sig T → AreRawTerms sig (instances s qs) Ks
        → normal_form sig T ≡ applied_in sig f (join b (normal_forms sig (instances s qs))) → IsTrue (occurs_in x qs) → value s x ≡ Some u → IsFound T u
    value_found_in f b nil Ks T x u rT rs n o h = absurd (true≢false (sym o))
    value_found_in f b (cons q qs) Ks T x u rT (next r k rest) n o h =
        by_first (λ V rV eV z. value_found q V x u rV r eV z h) (λ w. value_found_in f (join b (cons (normal_form sig (instance s q)) nil)) qs _ T x u rT rest (n ∙ ap (applied_in sig f) (sym (join_assoc b (cons (normal_form sig (instance s q)) nil) (normal_forms sig (instances s qs))))) w h) (occurs x q) refl o
      where
        by_first : ((V : RawTerm) → IsRawTerm sig V → EqualModulo sig (instance s q) V → IsTrue (occurs x q) → IsFound V u) → (IsTrue (occurs_in x qs) → IsFound T u) → (c : Bool) → occurs x q ≡ c → IsTrue (c || occurs_in x qs) → IsFound T u
        by_first one others true z w =
            let v : RawTerm = normal_form sig (instance s q) in
            let e : EqualModulo sig (instance s q) (nested sig v) = normal_form-sound sig ok r in
            let l : Lies sig (applied_in sig f (join b (cons v (normal_forms sig (instances s qs))))) v = argument_lies sig ok f b v (normal_forms sig (instances s qs)) (own_of v (canonical sig ok (instance s q)) ((raw_kept sig ok e).0 r) f) in
            into T (instance s q) u rT r (subst (λ y. Lies sig y v) (sym n) l) (λ V rV eV. one V rV eV z)
        by_first one others false z w = others w
