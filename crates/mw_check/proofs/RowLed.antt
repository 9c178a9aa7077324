-- A row leads to a raw term of its kinds.
use Rattle.std.specs.Prelude.{ℕ, List, [], ◌∷◌, Bool, true, false, codes, ⊤}
use Rattle.std.proofs.Common.{sym, subst, inl, inr}
use Rattle.mw_logic.specs.Term.{RawTerm, RawTerms, apply, nil, cons, constant}
use Rattle.mw_logic.specs.Signature.{Signature, Operator, IsOperator, SameKind, HasKind, of_operator, IsRawTerm, an_operator, AreRawTerms, end}
use Rattle.mw_logic.specs.Accepted.{IsAccepted}
use Rattle.mw_logic.specs.Parts.{IsClean}
use Rattle.mw_logic.specs.Module.{Module, AreKindsOf, IsTruth, Row, arithmetic, equal_terms, unequal_terms, not_different, different, if_true, if_false}
use Rattle.mw_logic.specs.Proof as proof
use Rattle.mw_logic.specs.WellFormed.{IsWellFormed}
use Rattle.mw_logic.proofs.Canonical.{same_operator}
use Rattle.mw_logic.proofs.KindLaws.{SameKind-trans, SameKind-sym, SameKind-equal}
use Rattle.mw_logic.proofs.RawLed.{LedRaw, leads_raw}
use Rattle.mw_least.specs.Workable.{IsWorkable}
use Rattle.mw_least.proofs.WellFormed.{workable_well_formed}

module _ (M : Module) (work : IsWorkable M) where
  abbrev sig : Signature
  sig = M.signature

  abbrev ok : IsAccepted sig
  ok = work.signature.accepted

  abbrev well : IsWellFormed M
  well = workable_well_formed M work

  truth_led : (b : Bool) (f : ℕ) (o : Operator) (ts : RawTerms) (r : RawTerm) → IsOperator sig f o → AreKindsOf sig (o.result ∷ []) (codes "Bool" ∷ []) → IsTruth sig b r → LedRaw M well (apply f ts) r
  truth_led b f o ts r there (A, named_a, same_a, rest_a) (c, e, named) raw = (subst (IsRawTerm sig) (sym e) (an_operator named.operator named.is_there (none named.operator.args named.of_kinds)), λ K k. subst (λ r. HasKind sig r K) (sym e) (kind K k))
    where
      none : (Ks : List ℕ) → AreKindsOf sig Ks [] → AreRawTerms sig nil Ks
      none [] h = end
      none (K ∷ Ks) h = elim h [ ]

      kind : (K : ℕ) → HasKind sig (apply f ts) K → HasKind sig (constant c) K
      kind K (of_operator p found k) =
          let (B, named_b, same_b, rest_b) = named.gives in
          let here : SameKind sig o.result K = subst (λ (p : Operator). SameKind sig p.result K) (same_operator sig f p o found there) k in
          of_operator named.operator named.is_there (SameKind-trans (SameKind-sym same_b) (SameKind-trans (SameKind-equal (ok.sorts_differ B A (codes "Bool") named_b named_a)) (SameKind-trans same_a here)))

  other_led : {t r : RawTerm} → ((N : RawTerm → Type 0) → Row sig N t r) → IsClean sig t → LedRaw M well t r
  other_led {t} {r} row c = leads_raw M well (λ b x y z u. ⊤) (λ C s es q. ⊤) (λ C s. ⊤) proof.row [] t r (row _, c, tt)

  pub row_led : {N : RawTerm → Type 0} {t r : RawTerm} → Row sig N t r → IsClean sig t → LedRaw M well t r
  row_led (arithmetic b p d) c = other_led (λ N. arithmetic b p d) c
  row_led (equal_terms p e d) c = other_led (λ N. equal_terms p e d) c
  row_led {r = r} (unequal_terms {f} {u} {v} p n m e d) c = truth_led false f p.0 (cons u (cons v nil)) r p.1 (well.tests f p.0 p.1 p.3 (inl p.2)) d
  row_led (not_different p e d) c = other_led (λ N. not_different p e d) c
  row_led {r = r} (different {f} {u} {v} p n m e d) c = truth_led true f p.0 (cons u (cons v nil)) r p.1 (well.tests f p.0 p.1 p.3 (inr p.2)) d
  row_led (if_true p d) c = other_led (λ N. if_true p d) c
  row_led (if_false p d) c = other_led (λ N. if_false p d) c
