-- What a module declares, and what is wrong with its declarations. (Maude Manual, chapter 3, "Sorts and subsorts": the subsort relation has no cycle.)
use Rattle.std.specs.Prelude.{◌≡◌, ℕ, List, Option, Some, None}
use Rattle.mw_logic.specs.Signature.{at_number}
use Rattle.mw_poset.specs.Order.{IsOnCycle, IsLeastOnCycle}
use Rattle.mw_module.specs.declared.faults.Fault.{Fault}
use Rattle.mw_module.specs.declared.faults.FaultKind.{FaultKind}
use Rattle.mw_module.specs.declared.faults.FaultKind.TheVariants.{SortCycle}
use Rattle.mw_module.specs.Units.{SeenLined}
use Rattle.mw_declare.specs.declared.declarations.Declarations.{Declarations}
use Rattle.mw_declare.specs.declared.built.Reached.{Reached}
use Rattle.mw_declare.specs.declared.built.Built.{Built}
use Rattle.mw_declare.specs.Built.{built_in}
use Rattle.mw_declare.specs.Meaning.{Name, sorts_of}
use Rattle.mw_declare.specs.Hierarchy.{Hierarchy, hierarchy_of, order_of}
use Rattle.mw_declare.specs.Operators.{Declared, operators_of, signature_with}
use Rattle.mw_declare.specs.Faults.{Typing, variables_with, unknown_from, operator_fault, told_at}

-- with these sorts, operators and variables, and what is built in
abbrev pub declarations_with : Built → Hierarchy → List Declared → Typing → Declarations
declarations_with b h os typing = record { signature = signature_with b h os; order = order_of h; variables = variables_with h.names typing }

-- what statements declare together with variables of these sorts, where these modules of the prelude are reached
abbrev pub declared_by : Reached → Typing → List SeenLined → Declarations
declared_by r typing ss = declarations_with (built_in r (hierarchy_of ss) ss) (hierarchy_of ss) (operators_of ss) typing

-- what is wrong with the first operator with which something is
abbrev pub operator_fault_of : Reached → List SeenLined → Option FaultKind
operator_fault_of r ss = operator_fault (built_in r (hierarchy_of ss) ss) (hierarchy_of ss) (operators_of ss)

-- the first sort that is mentioned and isn't declared
abbrev pub unknown_in_all : List SeenLined → Option Fault
unknown_in_all ss = unknown_from (sorts_of ss) ss

abbrev pub IsAcyclic : Hierarchy → Type 0
IsAcyclic h = (S : ℕ) → ¬ IsOnCycle h.pairs S

-- the fault of the least sort that is on a cycle, at a line
pub record CycleFault (line : ℕ) (h : Hierarchy) (f : Fault) : Type 0 where
  pub sort : ℕ
  pub least : IsLeastOnCycle h.pairs sort
  pub name : Name
  pub named : at_number h.names sort ≡ Some name
  pub fault : f ≡ record { line = line; kind = SortCycle name }

-- The statements declare d, together with these variables: each sort that is mentioned is declared, no sort is below itself, and of each operator axioms are
-- said that are kept, and no attributes that disagree. The variables are those of a module's own statements (`typing_of`, specs/Faults), where these are the
-- statements of the modules that it imports and its own; r says which modules of the prelude are among these.
pub record Declares (r : Reached) (typing : Typing) (ss : List SeenLined) (d : Declarations) : Type 0 where
  pub known : unknown_in_all ss ≡ None
  pub acyclic : IsAcyclic (hierarchy_of ss)
  pub fine : operator_fault_of r ss ≡ None
  pub declared : d ≡ declared_by r typing ss

-- The first fault of declarations, other than of variables: of a sort, or else of a cycle, of an operator. The last two have a line of their own, that of the
-- unit's first token.
pub data DeclarationFault (r : Reached) (line : ℕ) (ss : List SeenLined) (f : Fault) : Type 0 where
  of_sort : unknown_in_all ss ≡ Some f → DeclarationFault r line ss f
  of_cycle : unknown_in_all ss ≡ None → CycleFault line (hierarchy_of ss) f → DeclarationFault r line ss f
  of_operator : unknown_in_all ss ≡ None → IsAcyclic (hierarchy_of ss) → told_at line (operator_fault_of r ss) ≡ Some f → DeclarationFault r line ss f
