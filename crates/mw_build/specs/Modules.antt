-- Modules that were accepted, and why others are refused.
pub use Rattle.mw_build.specs.Imported.{Accepted}
use Rattle.std.specs.Prelude.{◌≡◌, ◌++◌, ◌≤◌, ℕ, List, map, take, drop, length, All, slice_get, Option, IfSome, Some, Ok, Err, codes}
use Rattle.std.specs.Global.{Box}
use Rattle.mw_logic.specs.Term.{Variable}
use Rattle.mw_sorting.specs.PreregularModulo.{IsPreregularModulo}
use Rattle.mw_logic.specs.Module.{Module, Statement}
use Rattle.mw_module.specs.Units.{SeenLined, SeenUnit, IsWithin}
use Rattle.mw_grammar.specs.declared.grammar.Grammar.{Grammar}
use Rattle.mw_grammar.specs.Grammars.{IsGrammarOf}
use Rattle.mw_index.specs.declared.index.Index.{Index}
use Rattle.mw_index.specs.Index.{IsIndexOf}
use Rattle.mw_logic.specs.Signature.{Signature}
use Rattle.mw_module.specs.Known.{AreKnown}
use Rattle.mw_module.specs.declared.faults.Fault.{Fault}
use Rattle.mw_import.specs.Flat.{FlatUnit, IsFlat, ImportFault, is_reached, all_statements}
use Rattle.mw_declare.specs.declared.declarations.Declarations.{Declarations}
use Rattle.mw_declare.specs.declared.built.Reached.{Reached}
use Rattle.mw_declare.specs.Faults.{Typing, typing_of}
use Rattle.mw_declare.specs.Declarations.{Declares, DeclarationFault}
use Rattle.mw_build.specs.Sides.{Sides, sides_of}
use Rattle.mw_omod.specs.declared.classes.Classes.{Classes}
use Rattle.mw_build.specs.Classes.{AreObjectsOf}
use Rattle.mw_build.specs.Statements.{AreReadAs, FirstFault}
use Rattle.mw_build.specs.Imported.{Origin, IsNotOwise, origins_of, AreImported, FirstImportedFault}
use Rattle.mw_build.specs.SignatureFaults.{SignatureFault}

-- the module's own variables have these sorts, and its imports reach these units
pub record IsFlattened (us : List FlatUnit) (u : SeenUnit) (typing : Typing) (reached : List ℕ) : Type 0 where
  pub typed : typing_of u.statements ≡ Ok typing
  pub flat : IsFlat us u.statements reached

-- all statements of the flattened module
abbrev pub flattened : List FlatUnit → SeenUnit → List ℕ → List SeenLined
flattened us u reached = all_statements us u.line reached u.statements

-- the modules of numbers and of quoted identifiers, where the module of this name that reaches these units has them
abbrev pub reached_of : List FlatUnit → List ℕ → List ℕ → Reached
reached_of us name reached = record { nat = is_reached us reached name (codes "NAT"); qid = is_reached us reached name (codes "QID") }

-- The module has this name, the signature and the variables that are declared, and for its statements these, that stand for those of the modules that it
-- reaches, and then its own equations and rules.
pub record IsDeclaredModule (name : List ℕ) (d : Declarations) (objects : Option Classes) (origins : List Origin) (written : List Sides) (a : Accepted) : Type 0 where
  pub preregular : IsPreregularModulo d.signature
  pub named : a.name ≡ name
  pub signature : a.module.signature ≡ d.signature
  pub variables : a.variables ≡ d.variables
  pub imported : List Statement
  pub imported_are : AreImported d.signature origins imported
  pub own_are : AreReadAs d.signature d.variables objects written a.own
  pub statements : a.module.statements ≡ imported ++ a.own

-- Why there is none, told at this line or that of a statement: the signature isn't preregular modulo its axioms, or else a statement that is imported has a
-- fault, or else an own one has.
pub data StatementsFault (line : ℕ) (d : Declarations) (objects : Option Classes) (origins : List Origin) (written : List Sides) (r : Fault) : Type 0 where
  by_signature : SignatureFault line d.signature r → StatementsFault line d objects origins written r
  by_imported : IsPreregularModulo d.signature → FirstImportedFault d.signature line origins r → StatementsFault line d objects origins written r
  by_own : (imported : List Statement) → IsPreregularModulo d.signature → AreImported d.signature origins imported
      → FirstFault d.signature d.variables objects written r → StatementsFault line d objects origins written r

-- The unit is this module, where these units were accepted as these modules: flattened it declares it.
pub record IsAccepted (us : List FlatUnit) (ms : List Accepted) (u : SeenUnit) (name : List ℕ) (reached : List ℕ) (a : Accepted) : Type 0 where
  pub typing : Typing
  pub flat : IsFlattened us u typing reached
  pub declarations : Declarations
  pub declared : Declares (reached_of us name reached) typing (flattened us u reached) declarations
  pub objects : Option Classes
  pub classes : AreObjectsOf u.word declarations.signature (flattened us u reached) objects
  pub holds : IsDeclaredModule name declarations objects (origins_of ms reached) (sides_of u.statements) a

-- Why it is none: the first of its own variables that has two sorts, or else its first import at fault, or else what its flattened module declares, or else its
-- signature or statements.
pub data IsRefused (us : List FlatUnit) (ms : List Accepted) (u : SeenUnit) (name : List ℕ) (r : Fault) : Type 0 where
  by_variables : typing_of u.statements ≡ Err r → IsRefused us ms u name r
  by_imports : (typing : Typing) → typing_of u.statements ≡ Ok typing → ImportFault us name u.statements r → IsRefused us ms u name r
  by_declarations : (typing : Typing) (reached : List ℕ) → IsFlattened us u typing reached → DeclarationFault (reached_of us name reached) u.line (flattened us u reached) r
      → IsRefused us ms u name r
  by_statements : (typing : Typing) (reached : List ℕ) (d : Declarations) (objects : Option Classes) → IsFlattened us u typing reached
      → Declares (reached_of us name reached) typing (flattened us u reached) d → AreObjectsOf u.word d.signature (flattened us u reached) objects
      → StatementsFault u.line d objects (origins_of ms reached) (sides_of u.statements) r → IsRefused us ms u name r

-- what an accepted unit's module has of what the unit declares: its signature, whatever line faults are told at
pub record IsOfUnit (us : List FlatUnit) (u : FlatUnit) (m : Accepted) : Type 0 where
  pub line : ℕ
  pub typing : Typing
  pub declarations : Declarations
  pub declared : Declares (reached_of us u.name u.reached) typing (all_statements us line u.reached u.statements) declarations
  pub signature : m.module.signature ≡ declarations.signature

-- These units were accepted as these modules, of the same names, one by one; and the statements of the units are known.
pub record AreLoaded (us : List FlatUnit) (ms : List Accepted) : Type 0 where
  pub names : map (λ (m : Accepted). m.name) ms ≡ map (λ (u : FlatUnit). u.name) us
  pub known : (k : ℕ) (u : FlatUnit) → slice_get us k ≡ Some u → AreKnown u.statements
  pub declared : (k : ℕ) (u : FlatUnit) (m : Accepted) → slice_get us k ≡ Some u → slice_get ms k ≡ Some m → IsOfUnit us u m

-- What is kept for a module, of whose statements so many are imported: its grammar, and its index where it was made; and none of its own statements is `owise`.
pub record IsHeld (M : Module) (imported : ℕ) (variables : List Variable) (g : Grammar) (kept : Option (Box Index)) : Type 0 where
  pub grammar : IsGrammarOf M.signature variables g
  pub index : IfSome kept (λ (index : Box Index). IsIndexOf M index.value)
  pub within : imported ≤ length M.statements
  pub ordinary : All IsNotOwise (drop imported M.statements)

-- declarations of statements that are known, among which those with the module's own variables are
pub record IsOfKnown (d : Declarations) : Type 0 where
  pub reached : Reached
  pub own : List SeenLined
  pub statements : List SeenLined
  pub typing : Typing
  pub typed : typing_of own ≡ Ok typing
  pub within : IsWithin own statements
  pub known : AreKnown statements
  pub declared : Declares reached typing statements d

-- The first so many statements stand for those of others, and the rest are the own ones.
pub record AreAll (sig : Signature) (variables : List Variable) (objects : Option Classes) (origins : List Origin) (written : List Sides) (imported : ℕ) (sts : List Statement) : Type 0 where
  pub within : imported ≤ length sts
  pub imported_are : AreImported sig origins (take imported sts)
  pub own_are : AreReadAs sig variables objects written (drop imported sts)

-- the first of either that is at fault
pub data NotAll (sig : Signature) (variables : List Variable) (objects : Option Classes) (line : ℕ) (origins : List Origin) (written : List Sides) (r : Fault) : Type 0 where
  imported_fault : FirstImportedFault sig line origins r → NotAll sig variables objects line origins written r
  own_fault : (imported : List Statement) → AreImported sig origins imported → FirstFault sig variables objects written r → NotAll sig variables objects line origins written r
