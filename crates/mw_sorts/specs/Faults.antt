-- Signatures that are not preregular modulo their axioms: the first operator, and its first sorts, that lack a least result, whose groupings differ, or to
-- which leaving an identity out raises.
use Rattle.std.specs.Prelude.{ℕ, ◌≡◌, ◌<◌, List, map}
use Rattle.mw_logic.specs.Signature.{Signature, Sorted, Operator, IsOperator}
use Rattle.mw_logic.specs.Preregular.{AreOfKinds, HasLeastResult, IsPreregular}
use Rattle.mw_term.specs.Signatures.{sorted_of}
use Rattle.mw_sorts.specs.declared.tables.TablesError.{TablesError}
use Rattle.mw_sorts.specs.declared.tables.TablesError.TheVariants.{NotPreregular, NotAssociative, LowIdentity, Memory}
use Rattle.mw_sorts.specs.Entries.{AreEntries, Precedes}
use Rattle.mw_sorts.specs.Results.{LacksLeastResult}
use Rattle.mw_sorts.specs.Groupings.{IsFirstGroupingFault, AllGroupAlike}
use Rattle.mw_sorts.specs.Leaving.{IsFirstIdentityFault}

-- The first sorts, in the order of lists, on which o lacks a least result.
pub record IsFirstLack (sig : Signature) (o : Operator) (Ss : List Sorted) : Type 0 where
  pub entries : AreEntries sig Ss o.args
  pub lacks : LacksLeastResult sig o Ss
  pub first : (Ts : List Sorted) → AreOfKinds sig Ts o.args → Precedes Ts Ss → HasLeastResult sig o Ts

-- Operator f is the first that lacks a least result on some sorts, and Ss are the first such sorts.
pub record IsFirstFault (sig : Signature) (f : ℕ) (Ss : List Sorted) : Type 0 where
  pub operator : Operator
  pub is_there : IsOperator sig f operator
  pub lack : IsFirstLack sig operator Ss
  pub before : (g : ℕ) (o : Operator) → IsOperator sig g o → g < f → (Ts : List Sorted) → AreOfKinds sig Ts o.args → HasLeastResult sig o Ts

-- Why there are no tables. Groupings count where all operators have least results, identities where all groupings agree besides; want of memory is always a
-- cause.
abbrev pub HasCause : Signature → TablesError → Type 0
HasCause sig (NotPreregular f Ss) = IsFirstFault sig f (map sorted_of Ss.items)
HasCause sig (NotAssociative f Ss) = IsPreregular sig × IsFirstGroupingFault sig f (map sorted_of Ss.items)
HasCause sig (LowIdentity f S) = IsPreregular sig × AllGroupAlike sig × IsFirstIdentityFault sig f (sorted_of S)
HasCause sig Memory = Unit {0}

-- why operator f, which is o, has no diagram
abbrev pub IsRefused : Signature → ℕ → Operator → TablesError → Type 0
IsRefused sig f o (NotPreregular g Ss) = (g ≡ f) × IsFirstLack sig o (map sorted_of Ss.items)
IsRefused sig f o (NotAssociative g Ss) = ⊥
IsRefused sig f o (LowIdentity g S) = ⊥
IsRefused sig f o Memory = Unit {0}
