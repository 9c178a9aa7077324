-- Operators with an identity that raises sorts where it is left out: a sort that is not at or below what the operator gives on it and the identity's sort.
use Rattle.std.specs.Prelude.{ℕ, ◌≡◌, ◌⊎◌, ◌<◌, [], ◌∷◌, Option, Some, None}
use Rattle.mw_logic.specs.Signature.{Signature, Sorted, Operator, IsOperator, Identity, identity_term}
use Rattle.mw_logic.specs.Sorts.{IsBelow}
use Rattle.mw_term.specs.Signatures.{sorted_of}
use Rattle.mw_term.specs.declared.signature.Sorted.{Sorted as SortedHeld}
use Rattle.mw_sorting.specs.ComputedSorts.{IsResultOn, ComputedSort}
use Rattle.mw_sorting.specs.PreregularModulo.{IsOfKind}
use Rattle.mw_sorts.specs.Entries.{IsEntry, IsBefore}

-- E is the computed sort of o's identity
abbrev pub IsIdentitySort : Signature → Operator → Sorted → Type 0
IsIdentitySort sig o E = (i : Identity) × (o.identity ≡ Some i) × ComputedSort sig (identity_term i) E

-- R is what o gives on S and E, on either side
abbrev pub IsBeside : Signature → Operator → Sorted → Sorted → Sorted → Type 0
IsBeside sig o E S R = IsResultOn sig o (E ∷ S ∷ []) R ⊎ IsResultOn sig o (S ∷ E ∷ []) R

-- S is at or below what o gives on S and E, on both sides, or on one side it isn't
abbrev pub StaysLow : Signature → Operator → Sorted → Sorted → Type 0
StaysLow sig o E S = (R : Sorted) → IsBeside sig o E S R → IsBelow sig S R

abbrev pub Raises : Signature → Operator → Sorted → Sorted → Type 0
Raises sig o E S = (R : Sorted) × IsBeside sig o E S R × (IsBelow sig S R → ⊥)

-- leaving o's identity out doesn't raise to S
abbrev pub KeepsLow : Signature → Operator → Sorted → Type 0
KeepsLow sig o S = (E : Sorted) → IsIdentitySort sig o E → StaysLow sig o E S

-- it doesn't raise to any sort of o's kind, nor to the kind itself
abbrev pub KeepsAllLow : Signature → Operator → Type 0
KeepsAllLow sig o = (S : Sorted) → IsOfKind sig o.result S → KeepsLow sig o S

-- The first sort to which leaving o's identity out raises.
pub record IsFirstLeft (sig : Signature) (o : Operator) (S : Sorted) : Type 0 where
  pub entry : IsEntry sig o.result S
  pub raises : (E : Sorted) × IsIdentitySort sig o E × Raises sig o E S
  pub first : (T : Sorted) → IsOfKind sig o.result T → IsBefore T S → KeepsLow sig o T

-- Operator f is the first whose identity raises a sort where it is left out, and S is the first such sort.
pub record IsFirstIdentityFault (sig : Signature) (f : ℕ) (S : Sorted) : Type 0 where
  pub operator : Operator
  pub is_there : IsOperator sig f operator
  pub left : IsFirstLeft sig operator S
  pub before : (g : ℕ) (o : Operator) → IsOperator sig g o → g < f → KeepsAllLow sig o

-- leaving an operator's identity out raises no sort
abbrev pub AllKeepLow : Signature → Type 0
AllKeepLow sig = (f : ℕ) (o : Operator) → IsOperator sig f o → KeepsAllLow sig o

-- the first sort to which leaving o's identity out raises, or nothing where there is none; and the same over all operators
abbrev pub IsFirstLeftIf : Signature → Operator → Option SortedHeld → Type 0
IsFirstLeftIf sig o None = KeepsAllLow sig o
IsFirstLeftIf sig o (Some S) = IsFirstLeft sig o (sorted_of S)

abbrev pub IsIdentityFaultIf : Signature → Option (ℕ × SortedHeld) → Type 0
IsIdentityFaultIf sig None = AllKeepLow sig
IsIdentityFaultIf sig (Some fault) = IsFirstIdentityFault sig fault.0 (sorted_of fault.1)
