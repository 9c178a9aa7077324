-- Associative operators under which groupings differ: three sorts on which o gives one sort where the first two are taken together, and another one where
-- the last two are.
use Rattle.std.specs.Prelude.{ℕ, ◌≡◌, ◌<◌, List, [], ◌∷◌, map, Option, Some, None, IsTrue}
use Rattle.std.specs.Global.{Vec}
use Rattle.mw_logic.specs.Signature.{Signature, Sorted, Operator, IsOperator}
use Rattle.mw_logic.specs.Sorts.{IsBelow}
use Rattle.mw_logic.specs.Accepted.{IsAccepted, IsWellSorted}
use Rattle.mw_logic.specs.Preregular.{AreOfKinds, HasItsSorts}
use Rattle.mw_poset.specs.Order.{IsOnCycle}
use Rattle.mw_term.specs.Signatures.{sorted_of}
use Rattle.mw_term.specs.declared.signature.Sorted.{Sorted as SortedHeld}
use Rattle.mw_sorting.specs.ComputedSorts.{IsResultOn}
use Rattle.mw_sorts.specs.Entries.{AreEntries, Precedes}

-- Accepted operators over sorts that are there, in an order without cycles.
pub record IsOrderSorted (sig : Signature) : Type 0 where
  pub accepted : IsAccepted sig
  pub fitting : IsWellSorted sig
  pub sorts : HasItsSorts sig
  pub acyclic : (S : ℕ) → IsOnCycle sig.pairs S → ⊥

-- each is at or below the other
abbrev pub AreAlike : Signature → Sorted → Sorted → Type 0
AreAlike sig V W = IsBelow sig V W × IsBelow sig W V

-- three arguments of o's kind
abbrev pub three_of : Operator → List ℕ
three_of o = o.result ∷ o.result ∷ o.result ∷ []

-- On these three sorts o gives V where the first two are taken together, and W where the last two are.
pub record AreGroupings (sig : Signature) (o : Operator) (Ss : List Sorted) (V W : Sorted) : Type 0 where
  pub first : Sorted
  pub middle : Sorted
  pub last : Sorted
  pub sorts : Ss ≡ first ∷ middle ∷ last ∷ []
  pub front : Sorted
  pub front_is : IsResultOn sig o (first ∷ middle ∷ []) front
  pub front_gives : IsResultOn sig o (front ∷ last ∷ []) V
  pub back : Sorted
  pub back_is : IsResultOn sig o (middle ∷ last ∷ []) back
  pub back_gives : IsResultOn sig o (first ∷ back ∷ []) W

-- the groupings of these three sorts agree, or differ
abbrev pub AgreesOn : Signature → Operator → List Sorted → Type 0
AgreesOn sig o Ss = (V W : Sorted) → AreGroupings sig o Ss V W → AreAlike sig V W

abbrev pub DiffersOn : Signature → Operator → List Sorted → Type 0
DiffersOn sig o Ss = (V : Sorted) × (W : Sorted) × AreGroupings sig o Ss V W × (AreAlike sig V W → ⊥)

-- the groupings of all sorts of o's kind agree, and of the kind itself
abbrev pub GroupsAlike : Signature → Operator → Type 0
GroupsAlike sig o = (Ss : List Sorted) → AreOfKinds sig Ss (three_of o) → AgreesOn sig o Ss

-- The first three sorts, in the order of lists, whose groupings under o differ.
pub record IsFirstGrouping (sig : Signature) (o : Operator) (Ss : List Sorted) : Type 0 where
  pub entries : AreEntries sig Ss (three_of o)
  pub differs : DiffersOn sig o Ss
  pub first : (Ts : List Sorted) → AreOfKinds sig Ts (three_of o) → Precedes Ts Ss → AgreesOn sig o Ts

-- Operator f is the first associative one under which groupings differ, and Ss are the first such sorts.
pub record IsFirstGroupingFault (sig : Signature) (f : ℕ) (Ss : List Sorted) : Type 0 where
  pub operator : Operator
  pub is_there : IsOperator sig f operator
  pub assoc : IsTrue operator.assoc
  pub grouping : IsFirstGrouping sig operator Ss
  pub before : (g : ℕ) (o : Operator) → IsOperator sig g o → g < f → IsTrue o.assoc → GroupsAlike sig o

-- each associative operator groups alike
abbrev pub AllGroupAlike : Signature → Type 0
AllGroupAlike sig = (f : ℕ) (o : Operator) → IsOperator sig f o → IsTrue o.assoc → GroupsAlike sig o

-- the first three sorts of o's kind whose groupings differ, or nothing where all agree; and the same over all operators
abbrev pub IsFirstGroupingIf : Signature → Operator → Option (Vec SortedHeld) → Type 0
IsFirstGroupingIf sig o None = GroupsAlike sig o
IsFirstGroupingIf sig o (Some Ss) = IsFirstGrouping sig o (map sorted_of Ss.items)

abbrev pub IsGroupingFaultIf : Signature → Option (ℕ × Vec SortedHeld) → Type 0
IsGroupingFaultIf sig None = AllGroupAlike sig
IsGroupingFaultIf sig (Some fault) = IsFirstGroupingFault sig fault.0 (map sorted_of fault.1.items)
