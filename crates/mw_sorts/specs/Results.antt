-- What an operator gives on arguments of some sorts.
use Rattle.std.specs.Prelude.{List, Option, Some, None}
use Rattle.mw_logic.specs.Signature.{Signature, Sorted, Operator}
use Rattle.mw_logic.specs.Sorts.{Takes}
use Rattle.mw_logic.specs.Preregular.{IsLeastResult}
use Rattle.mw_sorting.specs.ComputedSorts.{IsResultOn}

-- o takes arguments of the sorts Ss, and none of its results is least
pub record LacksLeastResult (sig : Signature) (o : Operator) (Ss : List Sorted) : Type 0 where
  pub taken : (Q : Sorted) × Takes sig o Ss Q
  pub no_least : (R : Sorted) → IsLeastResult sig o Ss R → ⊥

-- the result, or none where a least one lacks
abbrev pub IsEndOn : Signature → Operator → List Sorted → Option Sorted → Type 0
IsEndOn sig o Ss (Some R) = IsResultOn sig o Ss R
IsEndOn sig o Ss None = LacksLeastResult sig o Ss
