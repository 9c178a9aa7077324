-- Any two computed sorts of one term are at or below each other.
use Rattle.std.specs.Prelude.{◌≡◌, ℕ, List, [], ◌∷◌, codes, IsTrue}
use Rattle.std.proofs.Common.{sym, subst, ◌∙◌}
use Rattle.std.proofs.lemmas.Bool.{both_ways}
use Rattle.mw_logic.specs.Term.{RawTerm, numeral, RawTerms, cons}
use Rattle.mw_logic.specs.Signature.{Signature, Sorted, sort, Operator, IsOperator}
use Rattle.mw_logic.specs.Sorts.{IsBelow, AreBelow}
use Rattle.mw_logic.specs.Accepted.{IsAccepted, IsWellSorted}
use Rattle.mw_logic.proofs.BelowLaws.{IsBelow-refl}
use Rattle.mw_logic.proofs.RawArguments.{operator_of}
use Rattle.mw_sorting.specs.ComputedSorts.{ComputedSort, zero_sort, number_sort, quoted_sort, variable_sort, plain_sort, chain_sort, ComputedSorts, no_sorts, more_sorts, Folds, last, before, IsResultOn}
use Rattle.mw_sorting.specs.PreregularModulo.{HasNaturals}
use Rattle.mw_sorting.proofs.Results.{result_monotone}

module _ (sig : Signature) (accepted : IsAccepted sig) (fitting : IsWellSorted sig) (naturals : IsTrue sig.nat → HasNaturals sig) where
  -- any two computed sorts of one term
  mutual
    pub computed-agree : (t : RawTerm) (S T : Sorted) → ComputedSort sig t S → ComputedSort sig t T → IsBelow sig S T
    computed-agree t S T (zero_sort {S = A} n) (zero_sort {S = B} m) = subst (λ X. IsBelow sig (sort A) (sort X)) (accepted.sorts_differ A B (codes "Zero") n m) (IsBelow-refl sig (sort A))
    computed-agree t S T (number_sort {n} {S = A} f is s q) (number_sort {S = B} g is2 s2 q2) =
        let nats = naturals is.nat in
        let e : f ≡ g = nats.only f is ∙ sym (nats.only g is2) in
        let i : IsOperator sig g is.operator = subst (λ h. IsOperator sig h is.operator) e is.is_there in
        let q3 : IsResultOn sig is.operator (B ∷ []) T = operator_of sig g (λ o. IsResultOn sig o (B ∷ []) T) i is2.is_there q2 in
        result_monotone sig fitting f is.operator is.is_there (A ∷ []) (B ∷ []) S T q3 (computed-agree (numeral n) A B s s2, tt) q
    computed-agree t S T (quoted_sort {S = A} n) (quoted_sort {S = B} m) = subst (λ X. IsBelow sig (sort A) (sort X)) (accepted.sorts_differ A B (codes "Qid") n m) (IsBelow-refl sig (sort A))
    computed-agree t S T variable_sort variable_sort = IsBelow-refl sig S
    computed-agree t S T (plain_sort {f} {ts} {Ss = As} o is h ss q) (plain_sort {Ss = Bs} p is2 h2 ss2 q2) =
        result_monotone sig fitting f o is As Bs S T (operator_of sig f (λ o. IsResultOn sig o Bs T) is is2 q2) (computed-all_agree ts As Bs ss ss2) q
    computed-agree t S T (plain_sort o is h ss q) (chain_sort p is2 h2 q2) = absurd (both_ways _ h h2)
    computed-agree t S T (chain_sort o is h q) (plain_sort p is2 h2 ss2 q2) = absurd (both_ways _ h2 h)
    computed-agree t S T (chain_sort {f} {ts} o is h q) (chain_sort p is2 h2 q2) = folds_agree f o is ts S T q (operator_of sig f (λ o. Folds sig o ts T) is is2 q2)

    computed-all_agree : (ts : RawTerms) (Ss Ts : List Sorted) → ComputedSorts sig ts Ss → ComputedSorts sig ts Ts → AreBelow sig Ss Ts
    computed-all_agree ts Ss Ts no_sorts no_sorts = tt
    computed-all_agree (cons t ts) Ss Ts (more_sorts {S = S} {Ss = As} s ss) (more_sorts {S = T} {Ss = Bs} u us) = (computed-agree t S T s u, computed-all_agree ts As Bs ss us)

    folds_agree : (f : ℕ) (o : Operator) → IsOperator sig f o → (ts : RawTerms) (S T : Sorted) → Folds sig o ts S → Folds sig o ts T → IsBelow sig S T
    folds_agree f o is ts S T (last {t = t} s) (last u) = computed-agree t S T s u
    folds_agree f o is ts S T (before {t = t} {u = x} {us = xs} {S = A} {Q = P} s q r) (before {S = B} {Q = Q} u w v) =
        result_monotone sig fitting f o is (A ∷ P ∷ []) (B ∷ Q ∷ []) S T v (computed-agree t A B s u, (folds_agree f o is (cons x xs) P Q q w, tt)) r
