-- Quoted identifiers that are tokens stay so: in equal terms, in instances and their values, and in what rows make.
use Rattle.std.specs.Prelude.{◌≡◌, Bool, true, false, Option, Some, None, unwrap_or, IsTrue, refl}
use Rattle.std.proofs.Common.{sym, subst, ap, ◌∙◌, ⊎_elim}
use Rattle.std.proofs.lemmas.Bool.{true≢false, or_cases, or_left, or_right}
use Rattle.mw_logic.specs.Term.{Variable, RawTerm, numeral, quoted, variable, apply, RawTerms, nil, cons}
use Rattle.mw_logic.specs.Signature.{Signature, Identity, constant_of, numeral_of, identity_term}
use Rattle.mw_logic.specs.Axioms.{Axiom, assoc, comm, id_left, id_right, successor, OneUse, forward, backward, inside, OneUseIn, here, later, EqualModulo, done, then}
use Rattle.mw_logic.specs.Substitution.{Substitution, value, instance, instances, occurs, occurs_in}
use Rattle.mw_logic.specs.Module.{result_of, Result, number, truth, nothing, too_big, IsTruth, Denotes, Row, arithmetic, equal_terms, unequal_terms, not_different, different, if_true, if_false}
use Rattle.mw_logic.proofs.SameConditions.{same_variable-is, same_variable-refl}
use Rattle.mw_text.specs.Proper.{HasIdentifiers, HaveIdentifiers}

abbrev AreAlike : RawTerm → RawTerm → Type 0
AreAlike t u = (HasIdentifiers t → HasIdentifiers u) × (HasIdentifiers u → HasIdentifiers t)

identity_has : (i : Identity) → HasIdentifiers (identity_term i)
identity_has (constant_of c) = tt
identity_has (numeral_of n) = tt

module _ (sig : Signature) where
  axiom_alike : {t u : RawTerm} → Axiom sig t u → AreAlike t u
  axiom_alike (assoc is) = ((λ h. (h.0.0, ((h.0.1.0, (h.1.0, tt)), tt))), (λ h. ((h.0, (h.1.0.0, tt)), (h.1.0.1.0, tt))))
  axiom_alike (comm is) = ((λ h. (h.1.0, (h.0, tt))), (λ h. (h.1.0, (h.0, tt))))
  axiom_alike (id_left is k) = ((λ h. h.1.0), (λ h. (subst HasIdentifiers (sym is.is) (identity_has is.identity), (h, tt))))
  axiom_alike (id_right is k) = ((λ h. h.0), (λ h. (h, (subst HasIdentifiers (sym is.is) (identity_has is.identity), tt))))
  axiom_alike (successor is l) = ((λ h. tt), (λ h. (tt, tt)))

  mutual
    use_alike : {t u : RawTerm} → OneUse sig t u → AreAlike t u
    use_alike (forward a) = axiom_alike a
    use_alike (backward a) = let (p, q) = axiom_alike a in (q, p)
    use_alike (inside a) = uses_alike a

    uses_alike : {ts us : RawTerms} → OneUseIn sig ts us → (HaveIdentifiers ts → HaveIdentifiers us) × (HaveIdentifiers us → HaveIdentifiers ts)
    uses_alike (here a) = let (p, q) = use_alike a in ((λ h. (p h.0, h.1)), (λ h. (q h.0, h.1)))
    uses_alike (later a) = let (p, q) = uses_alike a in ((λ h. (h.0, p h.1)), (λ h. (h.0, q h.1)))

  -- equal terms
  pub equal_alike : {t u : RawTerm} → EqualModulo sig t u → AreAlike t u
  equal_alike done = ((λ h. h), (λ h. h))
  equal_alike (then a rest) = let (p, q) = use_alike a in let (r, s) = equal_alike rest in ((λ h. r (p h)), (λ h. q (s h)))

  truth_has : (b : Bool) (t : RawTerm) → IsTruth sig b t → HasIdentifiers t
  truth_has b t (c, e, n) = subst HasIdentifiers (sym e) tt

  result_has : (t : RawTerm) (r : Result) → Denotes sig r t → HasIdentifiers t
  result_has t (number n) e = subst HasIdentifiers (sym e) tt
  result_has t (truth b) e = truth_has b t e
  result_has t nothing e = absurd e
  result_has t too_big e = absurd e

  -- what rows make
  pub row_has : {N : RawTerm → Type 0} {t u : RawTerm} → Row sig N t u → HasIdentifiers t → HasIdentifiers u
  row_has {u = u} (arithmetic {m = m} {n = n} b p d) h = result_has u (result_of b m n) d
  row_has {u = u} (equal_terms p q t) h = truth_has true u t
  row_has {u = u} (unequal_terms p l m q t) h = truth_has false u t
  row_has {u = u} (not_different p q t) h = truth_has false u t
  row_has {u = u} (different p l m q t) h = truth_has true u t
  row_has (if_true p t) h = h.1.0
  row_has (if_false p t) h = h.1.1.0

-- instances, where values have such identifiers
mutual
  pub instance_has : (s : Substitution) (t : RawTerm) → ((x : Variable) → IsTrue (occurs x t) → (u : RawTerm) → value s x ≡ Some u → HasIdentifiers u) → HasIdentifiers t → HasIdentifiers (instance s t)
  instance_has s (numeral n) k h = h
  instance_has s (quoted q) k h = h
  instance_has s (variable x) k h = by_value (value s x) refl
    where
      by_value : (o : Option RawTerm) → value s x ≡ o → HasIdentifiers (unwrap_or o (variable x))
      by_value None e = tt
      by_value (Some u) e = k x (same_variable-refl x) u e
  instance_has s (apply f ts) k h = instances_have s ts k h

  instances_have : (s : Substitution) (ts : RawTerms) → ((x : Variable) → IsTrue (occurs_in x ts) → (u : RawTerm) → value s x ≡ Some u → HasIdentifiers u) → HaveIdentifiers ts
      → HaveIdentifiers (instances s ts)
  instances_have s nil k h = tt
  instances_have s (cons t ts) k h =
      (instance_has s t (λ x o. k x (or_left (occurs x t) (occurs_in x ts) o)) h.0, instances_have s ts (λ x o. k x (or_right (occurs x t) (occurs_in x ts) o)) h.1)

-- and the values in them
mutual
  pub value_has : (s : Substitution) (t : RawTerm) (x : Variable) (u : RawTerm) → value s x ≡ Some u → IsTrue (occurs x t) → HasIdentifiers (instance s t) → HasIdentifiers u
  value_has s (numeral n) x u e o h = absurd (true≢false (sym o))
  value_has s (quoted q) x u e o h = absurd (true≢false (sym o))
  value_has s (variable y) x u e o h = subst (λ v. HasIdentifiers (unwrap_or v (variable y))) (ap (value s) (same_variable-is y x o) ∙ e) h
  value_has s (apply f ts) x u e o h = value_in s ts x u e o h

  value_in : (s : Substitution) (ts : RawTerms) (x : Variable) (u : RawTerm) → value s x ≡ Some u → IsTrue (occurs_in x ts) → HaveIdentifiers (instances s ts) → HasIdentifiers u
  value_in s nil x u e o h = absurd (true≢false (sym o))
  value_in s (cons t ts) x u e o h = ⊎_elim (λ p. value_has s t x u e p h.0) (λ p. value_in s ts x u e p h.1) (or_cases (occurs x t) (occurs_in x ts) o)
