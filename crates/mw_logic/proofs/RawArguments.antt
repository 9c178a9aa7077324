-- Arguments on which an operator gives a raw term are raw, and of its kinds.
use Rattle.std.specs.Prelude.{◌≡◌, ◌^◌, ℕ, suc, [], ◌∷◌, Bool, true, false, cond, ◌&&◌, nat_eq, nat_lt, Option, Some, None, IsTrue, refl}
use Rattle.std.proofs.Common.{sym, subst, arith}
use Rattle.std.proofs.lemmas.Bool.{eqb-true, and_parts}
use Rattle.mw_logic.specs.Term.{RawTerm, numeral, quoted, variable, apply, RawTerms, nil, cons}
use Rattle.mw_logic.specs.Signature.{Signature, Operator, IsOperator, IsSuccessor, Identity, SameKind, same, HasKind, of_operator, of_numeral, IsRawTerm, a_numeral, an_operator, AreRawTerms, end, next}
use Rattle.mw_logic.specs.Accepted.{IsAccepted}
use Rattle.mw_logic.specs.Parts.{is_assoc, nested, all_nested, chain}
use Rattle.mw_logic.specs.TermOrder.{stands_after, sorted_terms}
use Rattle.mw_logic.specs.Kinds.{is_successor}
use Rattle.mw_logic.specs.NormalForm.{is_comm, identity_of, is_identity, identity_or_empty, own_arguments, elements, flattened, rebuilt, arranged, counted, applied_in}
use Rattle.mw_logic.proofs.KindLaws.{SameKind-sym}
use Rattle.mw_logic.proofs.Canonical.{Each, Each-arranged, Backed, Backed-arranged, AreCanonical, elements-backed, same_operator, comm_operator, identity_operator}
use Rattle.mw_logic.proofs.Invariance.{elements_kept}
use Rattle.mw_logic.proofs.Soundness.{HasKind-same, nested-identity, is_associative}
use Rattle.mw_logic.proofs.Successor.{is_successor-sound}
use Rattle.mw_logic.proofs.RawKept.{raw_pair, pair_raw}
use Rattle.mw_logic.proofs.CanonicalTerms.{elements-applied, flattened-backed}
use Rattle.mw_logic.proofs.Holes.{Each-unarranged, Each-parts}

-- a flattened term that means a raw term of this kind
abbrev pub IsTermOf : Signature → ℕ → RawTerm → Type 0
IsTermOf sig K t = IsRawTerm sig (nested sig t) × HasKind sig (nested sig t) K

-- what holds of an operator's record in one place holds in each
pub operator_of : (sig : Signature) (f : ℕ) (P : Operator → Type 0) {o p : Operator} → IsOperator sig f o → IsOperator sig f p → P p → P o
operator_of sig f P {o} {p} i j h = subst P (sym (same_operator sig f o p i j)) h

module _ (sig : Signature) (ok : IsAccepted sig) (f : ℕ) (o : Operator) (is : IsOperator sig f o) where
  -- Associative: all are of the operator's kind.
  module _ (h : is_assoc sig f ≡ true) where
    abbrev P : RawTerm → Type 0
    P = IsTermOf sig o.result

    chain_raw : (t : RawTerm) (ts : RawTerms) → Each P (cons t ts) → IsRawTerm sig (chain f (nested sig t) (all_nested sig ts)) × HasKind sig (chain f (nested sig t) (all_nested sig ts)) o.result
    chain_raw t nil p = p.0
    chain_raw t (cons u us) p =
        let (K, L, e, x, y) = ok.assoc f o is (is_associative sig ok f o is h) in
        let (r, k) = chain_raw u us p.1 in
        (pair_raw sig ok f o K L (nested sig t) (chain f (nested sig u) (all_nested sig us)) is e p.0.0 (HasKind-same p.0.1 (SameKind-sym x)) r (HasKind-same k (SameKind-sym y)), of_operator o is same)

    raw_chain : (t : RawTerm) (ts : RawTerms) → IsRawTerm sig (chain f (nested sig t) (all_nested sig ts)) → HasKind sig (chain f (nested sig t) (all_nested sig ts)) o.result → Each P (cons t ts)
    raw_chain t nil r k = ((r, k), tt)
    raw_chain t (cons u us) r k =
        let (K, L, e, x, y) = ok.assoc f o is (is_associative sig ok f o is h) in
        let (rt, kt, ru, ku) = raw_pair sig ok f o K L (nested sig t) (chain f (nested sig u) (all_nested sig us)) is e r in
        ((rt, HasKind-same kt x), raw_chain u us ru (HasKind-same ku y))

    -- terms of the kind, rebuilt
    rebuilt_term : (ts : RawTerms) → Backed (identity_of sig f) ts → Each P ts → P (rebuilt (identity_of sig f) f ts)
    rebuilt_term nil b p = by_identity (identity_of sig f) refl b
      where
        by_identity : (e : Option Identity) → identity_of sig f ≡ e → Backed e nil → P (identity_or_empty e f)
        by_identity None e b = cc
        by_identity (Some i) e b =
            let (q, there, w) = identity_operator sig f i e in
            let r = ok.identity f o i is (operator_of sig f (λ o. o.identity ≡ Some i) is there w) in
            subst (λ t. IsRawTerm sig t × HasKind sig t o.result) (sym (nested-identity sig ok i)) (r.1, r.2)
    rebuilt_term (cons t nil) b p = p.0
    rebuilt_term (cons t (cons u us)) b p =
        let n : nested sig (apply f (cons t (cons u us))) ≡ chain f (nested sig t) (all_nested sig (cons u us)) = rw h refl in
        subst (λ t. IsRawTerm sig t × HasKind sig t o.result) (sym n) (chain_raw t (cons u us) p)

    -- a term's own arguments
    pub own_terms : (t : RawTerm) → P t → Each P (own_arguments f t)
    own_terms (numeral n) p = (p, tt)
    own_terms (quoted q) p = (p, tt)
    own_terms (variable x) p = (p, tt)
    own_terms (apply g nil) p = (p, tt)
    own_terms (apply g (cons t ts)) p = by_test (nat_eq f g) refl
      where
        by_test : (b : Bool) → nat_eq f g ≡ b → Each P (cond b (cons t ts) (cons (apply g (cons t ts)) nil))
        by_test false e = (p, tt)
        by_test true e =
            let p2 : P (apply f (cons t ts)) = subst (λ g. P (apply g (cons t ts))) (sym (eqb-true f g e)) p in
            let n : nested sig (apply f (cons t ts)) ≡ chain f (nested sig t) (all_nested sig ts) = rw h refl in
            raw_chain t ts (subst (IsRawTerm sig) n p2.0) (subst (λ t. HasKind sig t o.result) n p2.1)

    elements_terms : (t : RawTerm) → P t → Each P (elements (identity_of sig f) f t)
    elements_terms t p = by_name (is_identity (identity_of sig f) t)
      where
        by_name : (b : Bool) → Each P (cond b nil (own_arguments f t))
        by_name true = tt
        by_name false = own_terms t p

    each_term : (vs : RawTerms) → AreCanonical sig vs → Each P (flattened (identity_of sig f) f vs) → Each P vs
    each_term nil k p = tt
    each_term (cons v vs) k p =
        let (a, b) = Each-parts P (elements (identity_of sig f) f v) (flattened (identity_of sig f) f vs) p in
        let r : P (rebuilt (identity_of sig f) f (arranged (is_comm sig f) (elements (identity_of sig f) f v))) =
        rebuilt_term (arranged (is_comm sig f) (elements (identity_of sig f) f v)) (Backed-arranged (identity_of sig f) (is_comm sig f) _ (elements-backed (identity_of sig f) f v)) (Each-arranged P (is_comm sig f) _ a) in
        (subst P (elements_kept sig ok f h v k.0) r, each_term vs k.1 b)

    -- arguments on which f gives a term of its kind are of it
    pub arguments_of_kind : (v : RawTerm) (vs : RawTerms) → AreCanonical sig (cons v vs) → P (applied_in sig f (cons v vs)) → Each P (cons v vs)
    arguments_of_kind v vs k p =
        let e : elements (identity_of sig f) f (applied_in sig f (cons v vs)) ≡ arranged (is_comm sig f) (flattened (identity_of sig f) f (cons v vs)) =
        elements-applied sig ok f h (cons v vs) k (flattened-backed sig ok (identity_of sig f) f v vs) in
        each_term (cons v vs) k (Each-unarranged P (is_comm sig f) (flattened (identity_of sig f) f (cons v vs)) (subst (Each P) e (elements_terms (applied_in sig f (cons v vs)) p)))

  -- Not associative: they are of the kinds of its arguments. A commutative operator has two.
  module _ (h : is_assoc sig f ≡ false) where
    pub arguments_raw : (vs : RawTerms) → (is_comm sig f ≡ true → (x : RawTerm) × (y : RawTerm) × (vs ≡ cons x (cons y nil))) → IsRawTerm sig (nested sig (applied_in sig f vs)) → AreRawTerms sig (all_nested sig vs) o.args
    arguments_raw vs pair r = by_comm (is_comm sig f) refl (subst (λ t. IsRawTerm sig (nested sig t)) plain r)
      where
        plain : applied_in sig f vs ≡ counted (is_successor sig f) f (arranged (is_comm sig f) vs)
        plain = rw h refl

        of_operator_term : (ws : RawTerms) → IsRawTerm sig (nested sig (apply f ws)) → AreRawTerms sig (all_nested sig ws) o.args
        of_operator_term ws r = opened (subst (IsRawTerm sig) e r)
          where
            e : nested sig (apply f ws) ≡ apply f (all_nested sig ws)
            e = rw h refl

            opened : IsRawTerm sig (apply f (all_nested sig ws)) → AreRawTerms sig (all_nested sig ws) o.args
            opened (an_operator p there args) = operator_of sig f (λ (p : Operator). AreRawTerms sig (all_nested sig ws) p.args) is there args

        of_counted : (ws : RawTerms) → IsRawTerm sig (nested sig (counted (is_successor sig f) f ws)) → AreRawTerms sig (all_nested sig ws) o.args
        of_counted nil r = of_operator_term nil r
        of_counted (cons (quoted q) nil) r = of_operator_term (cons (quoted q) nil) r
        of_counted (cons (variable x) nil) r = of_operator_term (cons (variable x) nil) r
        of_counted (cons (apply g us) nil) r = of_operator_term (cons (apply g us) nil) r
        of_counted (cons t (cons u us)) r = of_operator_term (cons t (cons u us)) r
        of_counted (cons (numeral n) nil) r = by_test (is_successor sig f && nat_lt (suc n) (2 ^ 128)) refl r
          where
            number_before : (k : IsSuccessor sig f) → IsRawTerm sig (numeral (suc n)) → AreRawTerms sig (cons (numeral n) nil) o.args
            number_before k (a_numeral b l) =
                let (A, w, x) = operator_of sig f (λ (o : Operator). (A : ℕ) × (o.args ≡ A ∷ []) × SameKind sig k.Nat A) is k.is_there (k.argument, k.takes_one, k.of_argument) in
                subst (AreRawTerms sig (cons (numeral n) nil)) (sym w) (next (a_numeral b (omega (arith, l))) (of_numeral k.Nat k.named b x) end)

            by_test : (b : Bool) → (is_successor sig f && nat_lt (suc n) (2 ^ 128)) ≡ b → IsRawTerm sig (nested sig (cond b (numeral (suc n)) (apply f (cons (numeral n) nil)))) → AreRawTerms sig (cons (numeral n) nil) o.args
            by_test false e r = of_operator_term (cons (numeral n) nil) r
            by_test true e r = number_before (is_successor-sound sig f (and_parts _ _ e).0) r

        by_comm : (c : Bool) → is_comm sig f ≡ c → IsRawTerm sig (nested sig (counted (is_successor sig f) f (arranged (is_comm sig f) vs))) → AreRawTerms sig (all_nested sig vs) o.args
        by_comm false c r = of_counted vs (rw c at r)
        by_comm true c r =
            let (p, there, w) = comm_operator sig f c in
            let (A, B, e, x) = ok.comm f o is (operator_of sig f (λ o. IsTrue o.comm) is there w) in
            let (y, z, v) = pair c in
            subst (AreRawTerms sig (all_nested sig vs)) (sym e) (two y z v A B x (subst (AreRawTerms sig (all_nested sig (sorted_terms vs))) e (of_counted (sorted_terms vs) (rw c at r))))
          where
            two : (y z : RawTerm) → vs ≡ cons y (cons z nil) → (A B : ℕ) → SameKind sig A B → AreRawTerms sig (all_nested sig (sorted_terms vs)) (A ∷ B ∷ []) → AreRawTerms sig (all_nested sig vs) (A ∷ B ∷ [])
            two y z v A B x r =
                subst (λ vs. AreRawTerms sig (all_nested sig vs) (A ∷ B ∷ [])) (sym v) (by_test (stands_after y z) (subst (λ vs. AreRawTerms sig (all_nested sig (sorted_terms vs)) (A ∷ B ∷ [])) v r))
              where
                turned : {t u : RawTerm} → AreRawTerms sig (cons t (cons u nil)) (A ∷ B ∷ []) → AreRawTerms sig (cons u (cons t nil)) (A ∷ B ∷ [])
                turned (next r k (next s l end)) = next s (HasKind-same l (SameKind-sym x)) (next r (HasKind-same k x) end)

                by_test : (b : Bool) → AreRawTerms sig (all_nested sig (cond b (cons z (cons y nil)) (cons y (cons z nil)))) (A ∷ B ∷ []) → AreRawTerms sig (cons (nested sig y) (cons (nested sig z) nil)) (A ∷ B ∷ [])
                by_test true r = turned r
                by_test false r = r
