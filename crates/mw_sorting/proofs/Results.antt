-- What an operator gives on sorts: a sort of its kind, on lower sorts a lower one, and a commutative one the same on
-- exchanged sorts.
use Rattle.std.specs.Prelude.{ℕ, List, [], ◌∷◌, IsTrue}
use Rattle.std.proofs.Common.{inl, inr, sym, subst, ap}
use Rattle.mw_logic.specs.Signature.{Signature, Sorted, Operator, IsOperator}
use Rattle.mw_logic.specs.Sorts.{IsBelow, AreBelow, Takes, Declares}
use Rattle.mw_logic.specs.Accepted.{IsWellSorted, number_of_sort}
use Rattle.mw_logic.proofs.KindLaws.{SameKind-sym, SameKind-equal}
use Rattle.mw_logic.proofs.BelowLaws.{below_its_kind, Takes-below, declares_kind}
use Rattle.mw_sorting.specs.ComputedSorts.{IsResultOn}
use Rattle.mw_sorting.specs.PreregularModulo.{IsOfKind}

module _ (sig : Signature) (fitting : IsWellSorted sig) (f : ℕ) (o : Operator) (is : IsOperator sig f o) where
  -- the result is of the operator's kind
  pub result_kind : (Ss : List Sorted) (R : Sorted) → IsResultOn sig o Ss R → IsOfKind sig o.result R
  result_kind Ss R (inl l) = SameKind-sym (declares_kind sig fitting f o l.takes.args R is l.takes.declares)
  result_kind Ss R (inr n) = SameKind-equal (ap number_of_sort n.1)

  -- lower sorts give a lower result
  pub result_monotone : (Ss Ts : List Sorted) (Q R : Sorted) → IsResultOn sig o Ts R → AreBelow sig Ss Ts → IsResultOn sig o Ss Q → IsBelow sig Q R
  result_monotone Ss Ts Q R (inl l) b (inl m) = m.least R (Takes-below sig o Ss Ts R b l.takes)
  result_monotone Ss Ts Q R (inl l) b (inr n) = absurd (n.0 R (Takes-below sig o Ss Ts R b l.takes))
  result_monotone Ss Ts Q R (inr n) b q = subst (IsBelow sig Q) (sym n.1) (below_its_kind sig Q o.result (result_kind Ss Q q))

  takes_swapped : IsTrue o.comm → (S T Q : Sorted) → Takes sig o (S ∷ T ∷ []) Q → Takes sig o (T ∷ S ∷ []) Q
  takes_swapped c S T Q t = by_args t.args t.declares t.fits
    where
      by_args : (args : List Sorted) → Declares o args Q → AreBelow sig (S ∷ T ∷ []) args → Takes sig o (T ∷ S ∷ []) Q
      by_args [] d b = absurd b
      by_args (A ∷ []) d b = absurd b.1
      by_args (A ∷ B ∷ []) (inl m) b = record { args = B ∷ A ∷ []; declares = inr (c, m); fits = (b.1.0, (b.0, tt)) }
      by_args (A ∷ B ∷ []) (inr m) b = record { args = B ∷ A ∷ []; declares = inl m.1; fits = (b.1.0, (b.0, tt)) }
      by_args (A ∷ B ∷ C ∷ Cs) d b = absurd b.1.1

  -- exchanged sorts give a commutative operator's result
  pub result_swapped : IsTrue o.comm → (S T R : Sorted) → IsResultOn sig o (S ∷ T ∷ []) R → IsResultOn sig o (T ∷ S ∷ []) R
  result_swapped c S T R (inl l) = inl (record { takes = takes_swapped c S T R l.takes; least = λ Q t. l.least Q (takes_swapped c T S Q t) })
  result_swapped c S T R (inr n) = inr ((λ Q t. n.0 Q (takes_swapped c T S Q t)), n.1)
