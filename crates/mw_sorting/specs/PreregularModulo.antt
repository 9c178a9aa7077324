-- Signatures that are preregular modulo their axioms: operators have least results on all sorts and kinds; these don't
-- depend on how an associative operator groups, and leaving an identity out raises none. (Maude Manual, chapter 3,
-- "Terms and preregularity".)
use Rattle.std.specs.Prelude.{◌≡◌, ℕ, List, [], ◌∷◌, Some, codes, IsTrue}
use Rattle.mw_logic.specs.Signature.{Signature, Sorted, sort, Operator, IsOperator, IsSortNamed, IsSuccessor, Identity, identity_term, SameKind}
use Rattle.mw_logic.specs.Sorts.{AtOrBelow, IsBelow, Declares}
use Rattle.mw_logic.specs.Accepted.{IsAccepted, IsWellSorted, number_of_sort}
use Rattle.mw_logic.specs.Preregular.{AreOfKinds}
use Rattle.mw_sorting.specs.ComputedSorts.{IsResultOn, ComputedSort}

-- a sort of K's kind, or this kind
abbrev pub IsOfKind : Signature → ℕ → Sorted → Type 0
IsOfKind sig K S = SameKind sig (number_of_sort S) K

-- The sorts of numbers: Zero and NzNat below Nat, and the one `s_`, which takes Nat to NzNat.
pub record HasNaturals (sig : Signature) : Type 0 where
  pub Zero : ℕ
  pub NzNat : ℕ
  pub Nat : ℕ
  pub zero_named : IsSortNamed sig Zero (codes "Zero")
  pub nonzero_named : IsSortNamed sig NzNat (codes "NzNat")
  pub nat_named : IsSortNamed sig Nat (codes "Nat")
  pub zero_below : AtOrBelow sig.pairs Zero Nat
  pub nonzero_below : AtOrBelow sig.pairs NzNat Nat
  pub successor : ℕ
  pub is : IsSuccessor sig successor
  pub declares : Declares is.operator (sort Nat ∷ []) (sort NzNat)
  pub only : (g : ℕ) → IsSuccessor sig g → g ≡ successor

-- An accepted signature that is preregular modulo its axioms. Each clause ranges over sorts and over kinds.
pub record IsPreregularModulo (sig : Signature) : Type 0 where
  pub accepted : IsAccepted sig
  pub well_sorted : IsWellSorted sig
  -- each operator has a least result, or no declaration takes the arguments
  pub results : (f : ℕ) (o : Operator) → IsOperator sig f o → (Ss : List Sorted) → AreOfKinds sig Ss o.args → (R : Sorted) × IsResultOn sig o Ss R
  -- the two groupings under an associative operator have one result, up to the order
  pub associative : (f : ℕ) (o : Operator) → IsOperator sig f o → IsTrue o.assoc → (S T U P Q V W : Sorted) → IsOfKind sig o.result S → IsOfKind sig o.result T → IsOfKind sig o.result U
      → IsResultOn sig o (S ∷ T ∷ []) P → IsResultOn sig o (P ∷ U ∷ []) V → IsResultOn sig o (T ∷ U ∷ []) Q → IsResultOn sig o (S ∷ Q ∷ []) W → IsBelow sig V W × IsBelow sig W V
  -- an argument beside the identity is at or below the result
  pub identity : (f : ℕ) (o : Operator) (i : Identity) → IsOperator sig f o → o.identity ≡ Some i → (E S R : Sorted) → ComputedSort sig (identity_term i) E → IsOfKind sig o.result S
      → (IsResultOn sig o (E ∷ S ∷ []) R → IsBelow sig S R) × (IsResultOn sig o (S ∷ E ∷ []) R → IsBelow sig S R)
  pub naturals : IsTrue sig.nat → HasNaturals sig
