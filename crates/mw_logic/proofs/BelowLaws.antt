-- Sorts and kinds in their order: it is reflexive and transitive, and stays within a kind.
use Rattle.std.specs.Prelude.{ℕ, List, [], ◌∷◌}
use Rattle.std.proofs.Common.{inl, inr}
use Rattle.mw_logic.specs.Signature.{Signature, Sorted, sort, kind, Operator, IsOperator, SameKind, same, up}
use Rattle.mw_logic.specs.Sorts.{AtOrBelow, IsBelow, AreBelow, Declares, Takes}
use Rattle.mw_logic.specs.Accepted.{IsWellSorted, number_of_sort}
use Rattle.mw_logic.proofs.KindLaws.{SameKind-trans}

-- chains are joined
pub AtOrBelow-trans : {pairs : List (ℕ × ℕ)} {S T U : ℕ} → AtOrBelow pairs S T → AtOrBelow pairs T U → AtOrBelow pairs S U
AtOrBelow-trans AtOrBelow.same q = q
AtOrBelow-trans (AtOrBelow.above m p) q = AtOrBelow.above m (AtOrBelow-trans p q)

-- a chain leads on within a kind
pub AtOrBelow-kind : {sig : Signature} {S T : ℕ} → AtOrBelow sig.pairs S T → SameKind sig S T
AtOrBelow-kind AtOrBelow.same = same
AtOrBelow-kind (AtOrBelow.above m p) = up m (AtOrBelow-kind p)

-- `IsBelow` is reflexive
pub IsBelow-refl : (sig : Signature) (S : Sorted) → IsBelow sig S S
IsBelow-refl sig (sort S) = AtOrBelow.same
IsBelow-refl sig (kind K) = same

-- and transitive
pub IsBelow-trans : (sig : Signature) (S T U : Sorted) → IsBelow sig S T → IsBelow sig T U → IsBelow sig S U
IsBelow-trans sig (sort S) (sort T) (sort U) p q = AtOrBelow-trans p q
IsBelow-trans sig (sort S) (sort T) (kind U) p q = SameKind-trans (AtOrBelow-kind p) q
IsBelow-trans sig (sort S) (kind T) (sort U) p q = absurd q
IsBelow-trans sig (sort S) (kind T) (kind U) p q = SameKind-trans p q
IsBelow-trans sig (kind S) (sort T) U p q = absurd p
IsBelow-trans sig (kind S) (kind T) (sort U) p q = absurd q
IsBelow-trans sig (kind S) (kind T) (kind U) p q = SameKind-trans p q

-- what is below is of one kind
pub IsBelow-kind : (sig : Signature) (S T : Sorted) → IsBelow sig S T → SameKind sig (number_of_sort S) (number_of_sort T)
IsBelow-kind sig (sort S) (sort T) p = AtOrBelow-kind p
IsBelow-kind sig (sort S) (kind T) p = p
IsBelow-kind sig (kind S) (sort T) p = absurd p
IsBelow-kind sig (kind S) (kind T) p = p

-- what is of a kind is below it
pub below_its_kind : (sig : Signature) (S : Sorted) (K : ℕ) → SameKind sig (number_of_sort S) K → IsBelow sig S (kind K)
below_its_kind sig (sort S) K p = p
below_its_kind sig (kind L) K p = p

-- `AreBelow` is transitive
pub AreBelow-trans : (sig : Signature) (Ss Ts Us : List Sorted) → AreBelow sig Ss Ts → AreBelow sig Ts Us → AreBelow sig Ss Us
AreBelow-trans sig [] [] Us p q = q
AreBelow-trans sig [] (T ∷ Ts) Us p q = absurd p
AreBelow-trans sig (S ∷ Ss) [] Us p q = absurd p
AreBelow-trans sig (S ∷ Ss) (T ∷ Ts) [] p q = absurd q
AreBelow-trans sig (S ∷ Ss) (T ∷ Ts) (U ∷ Us) p q = (IsBelow-trans sig S T U p.0 q.0, AreBelow-trans sig Ss Ts Us p.1 q.1)

-- an operator takes lower sorts too
pub Takes-below : (sig : Signature) (o : Operator) (Ss Ts : List Sorted) (R : Sorted) → AreBelow sig Ss Ts → Takes sig o Ts R → Takes sig o Ss R
Takes-below sig o Ss Ts R b t = record { args = t.args; declares = t.declares; fits = AreBelow-trans sig Ss Ts t.args b t.fits }

-- a declared result is of its operator's kind
pub declares_kind : (sig : Signature) → IsWellSorted sig → (f : ℕ) (o : Operator) (Ss : List Sorted) (R : Sorted) → IsOperator sig f o → Declares o Ss R → SameKind sig o.result (number_of_sort R)
declares_kind sig fitting f o Ss R e (inl m) = fitting.results f o _ e m
declares_kind sig fitting f o Ss R e (inr h) = fitting.results f o _ e h.1
