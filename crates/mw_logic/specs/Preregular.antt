-- Numbers that are those of sorts, declarations that lie in the kinds of their operator, and preregularity: arguments that some declaration takes have a
-- least result. (Maude Manual, chapter 3, "Kinds" and "Terms and preregularity"; Goguen and Meseguer 1992, preregular signatures.)
use Rattle.std.specs.Prelude.{ℕ, ◌≤◌, List, [], ◌∷◌, length, ⊤}
use Rattle.mw_logic.specs.Signature.{Signature, Sorted, Declaration, Operator, IsOperator, SameKind, Member}
use Rattle.mw_logic.specs.Sorts.{IsBelow, Takes}
use Rattle.mw_logic.specs.Accepted.{number_of_sort}

-- S is the number of a sort
abbrev pub IsSortOf : Signature → ℕ → Type 0
IsSortOf sig S = (1 ≤ S) × (S ≤ length sig.sorts)

-- sorts of these kinds, one by one, or the kinds themselves
abbrev pub AreOfKinds : Signature → List Sorted → List ℕ → Type 0
AreOfKinds sig [] [] = ⊤
AreOfKinds sig [] (K ∷ Ks) = ⊥
AreOfKinds sig (S ∷ Ss) [] = ⊥
AreOfKinds sig (S ∷ Ss) (K ∷ Ks) = SameKind sig (number_of_sort S) K × AreOfKinds sig Ss Ks

-- d declares o: its sorts are there, and lie in o's kinds
pub record IsDeclarationOf (sig : Signature) (o : Operator) (d : Declaration) : Type 0 where
  pub args : AreOfKinds sig d.args o.args
  pub result : SameKind sig o.result (number_of_sort d.result)
  pub args_there : (S : Sorted) → Member S d.args → IsSortOf sig (number_of_sort S)
  pub result_there : IsSortOf sig (number_of_sort d.result)

-- the sorts of subsort pairs and the kinds of operators are there, and so are those of declarations, in their operator's kinds
pub record HasItsSorts (sig : Signature) : Type 0 where
  pub pairs : (S T : ℕ) → Member (S, T) sig.pairs → IsSortOf sig S × IsSortOf sig T
  pub args : (f : ℕ) (o : Operator) → IsOperator sig f o → (K : ℕ) → Member K o.args → IsSortOf sig K
  pub results : (f : ℕ) (o : Operator) → IsOperator sig f o → IsSortOf sig o.result
  pub declarations : (f : ℕ) (o : Operator) → IsOperator sig f o → (d : Declaration) → Member d o.declarations → IsDeclarationOf sig o d

-- R is the least result that o has on arguments of the sorts Ss
pub record IsLeastResult (sig : Signature) (o : Operator) (Ss : List Sorted) (R : Sorted) : Type 0 where
  pub takes : Takes sig o Ss R
  pub least : (Q : Sorted) → Takes sig o Ss Q → IsBelow sig R Q

-- where o takes arguments of these sorts at all, one of its results is least
abbrev pub HasLeastResult : Signature → Operator → List Sorted → Type 0
HasLeastResult sig o Ss = (Q : Sorted) → Takes sig o Ss Q → (R : Sorted) × IsLeastResult sig o Ss R

-- each operator has a least result on arguments of all sorts of its kinds, and of the kinds themselves
abbrev pub IsPreregular : Signature → Type 0
IsPreregular sig = (f : ℕ) (o : Operator) → IsOperator sig f o → (Ss : List Sorted) → AreOfKinds sig Ss o.args → HasLeastResult sig o Ss
