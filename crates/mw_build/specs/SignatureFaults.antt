-- What is wrong with a signature that isn't preregular modulo its axioms.
use Rattle.std.specs.Prelude.{◌≡◌, ℕ, List, [], ◌∷◌, map, ⊤}
use Rattle.mw_logic.specs.Signature.{Signature, Sorted}
use Rattle.mw_logic.specs.Preregular.{IsPreregular}
use Rattle.mw_module.specs.declared.faults.Fault.{Fault}
use Rattle.mw_module.specs.declared.faults.FaultKind.TheVariants.{NotPreregular, NotAssociative, LowIdentity}
use Rattle.mw_print.specs.Sorts.{sorted_name, IsKindThere}
use Rattle.mw_sorts.specs.Faults.{IsFirstFault}
use Rattle.mw_sorts.specs.Groupings.{IsFirstGroupingFault, AllGroupAlike}
use Rattle.mw_sorts.specs.Leaving.{IsFirstIdentityFault}

-- Told at a line, with the names of the sorts: the first operator that lacks a least result, and its first sorts on which it does; or else the first one
-- whose groupings differ, and the first three sorts; or else the first one whose identity, left out, raises a sort, and the first such sort.
pub data SignatureFault (line : ℕ) (sig : Signature) (r : Fault) : Type 0 where
  no_least : (f : ℕ) (Ss : List Sorted) (first : IsFirstFault sig f Ss) → r ≡ record { line = line; kind = NotPreregular first.operator.spelling (map (sorted_name sig) Ss) } → SignatureFault line sig r
  groupings : (f : ℕ) (Ss : List Sorted) (first : IsFirstGroupingFault sig f Ss) → IsPreregular sig → r ≡ record { line = line; kind = NotAssociative first.operator.spelling (map (sorted_name sig) Ss) } → SignatureFault line sig r
  identity : (f : ℕ) (S : Sorted) (first : IsFirstIdentityFault sig f S) → IsPreregular sig → AllGroupAlike sig → r ≡ record { line = line; kind = LowIdentity first.operator.spelling (sorted_name sig S) } → SignatureFault line sig r

-- kinds among these are named by numbers of sorts
abbrev pub AreThere : Signature → List Sorted → Type 0
AreThere sig [] = ⊤
AreThere sig (S ∷ Ss) = IsKindThere sig S × AreThere sig Ss
