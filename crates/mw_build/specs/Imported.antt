-- The statements of modules that are reached by imports, as they stand in the module that reaches them.
use Rattle.std.specs.Prelude.{◌≡◌, ℕ, List, [], map, flat_map, Option, Some, None, slice_get, false, IsTrue}
use Rattle.mw_logic.specs.Term.{RawTerm, Variable}
use Rattle.mw_logic.specs.Signature.{Signature, Member}
use Rattle.mw_logic.specs.Module.{Module, Fragment, Statement}
use Rattle.mw_module.specs.declared.faults.FaultKind.{FaultKind}
use Rattle.mw_module.specs.declared.faults.Fault.{Fault}
use Rattle.mw_logic.specs.Preregular.{IsSortOf}
use Rattle.mw_least.specs.Conditions.{occurs_among}
use Rattle.mw_least.specs.Workable.{AreSides}
use Rattle.mw_carry.specs.Carried.{IsCarried, AreCarriedFragments, IsCarriedStatement, IsPart}
use Rattle.mw_build.specs.Pairwise.{AreRelated, IsFirstWrong}
use Rattle.mw_build.specs.Statements.{IsStatementOf, TermsFault}

-- A module with its name, the variables that are declared in it, and the statements that stand in it itself, read in its own signature. The module's
-- statements are all that it reaches.
pub record Accepted : Type 0 where
  pub name : List ℕ
  pub «module» : Module
  pub variables : List Variable
  pub own : List Statement

-- a statement, with the signature in which it was read
pub record Origin : Type 0 where
  pub signature : Signature
  pub statement : Statement

abbrev pub origins_in : Option Accepted → List Origin
origins_in None = []
origins_in (Some m) = map (λ (st : Statement). record { signature = m.module.signature; statement = st }) m.own

-- the own statements of the modules of these numbers, in order
abbrev pub origins_of : List Accepted → List ℕ → List Origin
origins_of ms ks = flat_map (λ (k : ℕ). origins_in (slice_get ms k)) ks

-- the sorts of the variables of fragments are there
abbrev pub HaveSortsAmong : Signature → List Fragment → Type 0
HaveSortsAmong sig C = (x : Variable) → IsTrue (occurs_among x C) → IsSortOf sig x.sort

-- not `owise`, executable or not
abbrev pub IsNotOwise : Statement → Type 0
IsNotOwise st = st.owise ≡ false

module _ (sig : Signature) where
  -- the statement stands for one that was read elsewhere, and can stand in this signature
  pub record IsImported (e : Origin) (st : Statement) : Type 0 where
    pub carried : IsCarriedStatement e.signature sig e.statement st
    pub holds : IsStatementOf sig st.left st.right st.fragments e.statement.rule e.statement.executable st
    pub sides : AreSides sig st

  -- what is wrong here with a statement that was read elsewhere
  pub record ImportedFault (e : Origin) (kind : FaultKind) : Type 0 where
    pub left : RawTerm
    pub right : RawTerm
    pub fragments : List Fragment
    pub carried_left : IsCarried e.signature sig e.statement.left left
    pub carried_right : IsCarried e.signature sig e.statement.right right
    pub carried_fragments : AreCarriedFragments e.signature sig e.statement.fragments fragments
    pub fault : TermsFault sig left right fragments e.statement.executable kind

  abbrev pub AreImported : List Origin → List Statement → Type 0
  AreImported es sts = AreRelated IsImported es sts

  -- one that has this fault, told at this line
  abbrev pub HasFaultAt : ℕ → Fault → Origin → Type 0
  HasFaultAt line r e = ImportedFault e r.kind × (r.line ≡ line)

  abbrev pub FirstImportedFault : ℕ → List Origin → Fault → Type 0
  FirstImportedFault line es r = IsFirstWrong IsImported (HasFaultAt line r) es

-- modules of these numbers are there, and their signatures are parts of this one
abbrev pub ArePartsOf : List Accepted → List ℕ → Signature → Type 0
ArePartsOf ms ks sig = (k : ℕ) → Member k ks → (m : Accepted) × (slice_get ms k ≡ Some m) × IsPart m.module.signature sig
