-- Which statement an equation or a rule is, and what is wrong with one. (Maude Manual, chapter 4, "Unconditional equations" and "Conditional equations and
-- memberships"; chapter 5, "Unconditional rules" and "Conditional rules".)
use Rattle.std.specs.Prelude.{◌≡◌, List, [], ◌∷◌, All, Bool, true, false, IsTrue, Option, Some, None}
use Rattle.mw_logic.specs.Term.{Variable, RawTerm, variable}
use Rattle.mw_logic.specs.Signature.{Signature}
use Rattle.mw_logic.specs.Axioms.{EqualModulo}
use Rattle.mw_logic.specs.Parts.{IsTooDeep, IsTooLarge}
use Rattle.mw_logic.specs.Module.{Fragment, equal, matches, has_sort, is_true, Statement}
use Rattle.mw_least.specs.Conditions.{met_fragments}
use Rattle.mw_position.specs.Variables.{met}
use Rattle.mw_text.specs.Mentions.{missing_in}
use Rattle.mw_module.specs.declared.faults.Fault.{Fault}
use Rattle.mw_module.specs.declared.faults.FaultKind.{FaultKind}
use Rattle.mw_module.specs.declared.faults.FaultKind.TheVariants.{TooDeep, NumberTooLarge, LoneVariable, UnboundVariable, BadObject}
use Rattle.mw_text.specs.Readings.{ReadsPair}
use Rattle.mw_module.specs.Words.{texts}
use Rattle.mw_omod.specs.declared.classes.Classes.{Classes}
use Rattle.mw_omod.specs.Completion.{IsCompletion, IsBad}
use Rattle.mw_build.specs.Pairwise.{AreRelated, IsFirstWrong}
use Rattle.mw_build.specs.Sides.{Sides}
use Rattle.mw_build.specs.Fragments.{PairFault, AreFragments, FirstFragmentFault}

-- the variables of what is evaluated in a fragment: of all but the pattern of a match
abbrev pub used_in : Fragment → List Variable
used_in (equal u v) = met (met [] u) v
used_in (matches p t) = met [] t
used_in (has_sort t S) = met [] t
used_in (is_true b) = met [] b

-- these variables, and those that a fragment binds; and those that all fragments do
abbrev pub bound_behind : List Variable → Fragment → List Variable
bound_behind xs (equal u v) = xs
bound_behind xs (matches p t) = met xs p
bound_behind xs (has_sort t S) = xs
bound_behind xs (is_true b) = xs

abbrev pub bound_by : List Variable → List Fragment → List Variable
bound_by xs [] = xs
bound_by xs (f ∷ C) = bound_by (bound_behind xs f) C

-- the one, or where there is none the other
abbrev pub or_else : Option Variable → Option Variable → Option Variable
or_else (Some x) o = Some x
or_else None o = o

-- the first variable of what is evaluated that isn't bound by then
abbrev pub loose : List Variable → List Fragment → Option Variable
loose xs [] = None
loose xs (f ∷ C) = or_else (missing_in xs (used_in f)) (loose (bound_behind xs f) C)

-- the first variable of the right side that neither the left side nor a fragment binds; else the first one of a fragment that isn't bound by then
abbrev pub unbound : RawTerm → RawTerm → List Fragment → Option Variable
unbound left right C = or_else (missing_in (bound_by (met [] left) C) (met [] right)) (loose (met [] left) C)

-- the terms of fragments, in order
abbrev pub terms_of : List Fragment → List RawTerm
terms_of [] = []
terms_of (equal u v ∷ C) = u ∷ v ∷ terms_of C
terms_of (matches p t ∷ C) = p ∷ t ∷ terms_of C
terms_of (has_sort t S ∷ C) = t ∷ terms_of C
terms_of (is_true b ∷ C) = b ∷ terms_of C

-- neither too deep nor with too large a number
pub record FitsIn (sig : Signature) (t : RawTerm) : Type 0 where
  pub not_deep : IsTooDeep sig t → ⊥
  pub not_large : IsTooLarge sig t → ⊥

-- what keeps a term out: that it is too deep, or else a number
pub data Oversized (sig : Signature) (t : RawTerm) : FaultKind → Type 0 where
  deep : IsTooDeep sig t → Oversized sig t TooDeep
  large : (IsTooDeep sig t → ⊥) → IsTooLarge sig t → Oversized sig t NumberTooLarge

-- the first term that is kept out
pub data FirstOversized (sig : Signature) (cause : FaultKind) : List RawTerm → Type 0 where
  here : (t : RawTerm) (ts : List RawTerm) → Oversized sig t cause → FirstOversized sig cause (t ∷ ts)
  behind : (t : RawTerm) (ts : List RawTerm) → FitsIn sig t → FirstOversized sig cause ts → FirstOversized sig cause (t ∷ ts)

-- in the canonical form it is a variable
abbrev pub IsLone : Signature → RawTerm → Type 0
IsLone sig t = (x : Variable) × EqualModulo sig t (variable x)

-- the equation or rule of these sides and fragments
abbrev pub statement_of : RawTerm → RawTerm → List Fragment → Bool → Bool → Statement
statement_of left right C rule executable = record {
  left = left;
  right = right;
  fragments = C;
  variables = met_fragments (met (met [] left) right) C;
  rule = rule;
  executable = executable;
  owise = false;
}

-- all terms of it, in order
abbrev pub all_terms : RawTerm → RawTerm → List Fragment → List RawTerm
all_terms left right C = left ∷ right ∷ terms_of C

module _ (sig : Signature) (left right : RawTerm) (C : List Fragment) where
  -- A statement of these sides and fragments can be applied: the left one isn't a variable, and all variables are bound in turn.
  pub record IsApplicable : Type 0 where
    pub not_lone : IsLone sig left → ⊥
    pub bound : unbound left right C ≡ None

  -- why it can't, in this order
  pub data ApplicationFault : FaultKind → Type 0 where
    lone : IsLone sig left → ApplicationFault LoneVariable
    open_term : (x : Variable) → (IsLone sig left → ⊥) → unbound left right C ≡ Some x → ApplicationFault (UnboundVariable x.name)

  -- Nothing is wrong with the terms of a statement: they fit in, and it can be applied where it is executable.
  pub record AreFine (executable : Bool) : Type 0 where
    pub fit : All (FitsIn sig) (all_terms left right C)
    pub applicable : IsTrue executable → IsApplicable

  -- these are the sides and the fragments of this statement
  pub record IsStatementOf (rule executable : Bool) (st : Statement) : Type 0 where
    pub holds : AreFine executable
    pub statement : st ≡ statement_of left right C rule executable

  -- what is wrong with the terms of a statement, in this order; nothing else is with those of one that isn't executable
  pub data TermsFault (executable : Bool) (cause : FaultKind) : Type 0 where
    big_term : FirstOversized sig cause (all_terms left right C) → TermsFault executable cause
    inapplicable : All (FitsIn sig) (all_terms left right C) → IsTrue executable → ApplicationFault cause → TermsFault executable cause

-- nothing is wrong with the terms of the statement; or this is
abbrev pub IsFine : Signature → Statement → Type 0
IsFine sig e = AreFine sig e.left e.right e.fragments e.executable

abbrev pub HasFaultOfTerms : Signature → Statement → FaultKind → Type 0
HasFaultOfTerms sig e cause = TermsFault sig e.left e.right e.fragments e.executable cause

-- A rule of an object module is this one, completed, where nothing is wrong with its terms.
pub record IsObjectRule (sig : Signature) (K : Classes) (e e' : Statement) : Type 0 where
  pub completed : IsCompletion sig K e e'
  pub fine : IsFine sig e'

-- What is wrong with it, in this order: with the terms of the completed rule; and where a bad object stands in it, with its own terms, or else that.
pub data ObjectRuleFault (sig : Signature) (K : Classes) (e : Statement) : FaultKind → Type 0 where
  bad_completed : (e' : Statement) (cause : FaultKind) → IsCompletion sig K e e' → HasFaultOfTerms sig e' cause → ObjectRuleFault sig K e cause
  bad_written : (cause : FaultKind) → IsBad sig K e.left e.right → HasFaultOfTerms sig e cause → ObjectRuleFault sig K e cause
  bad_object : IsBad sig K e.left e.right → IsFine sig e → ObjectRuleFault sig K e BadObject

-- An own statement of a module, of an object module with these classes: a rule of such a module is completed, any other statement is as it is written.
pub data IsOwn (sig : Signature) : Option Classes → Statement → Statement → Type 0 where
  own_rule : (K : Classes) (e e' : Statement) → e.rule ≡ true → IsObjectRule sig K e e' → IsOwn sig (Some K) e e'
  own_equation : (K : Classes) (e : Statement) → e.rule ≡ false → IsFine sig e → IsOwn sig (Some K) e e
  own_statement : (e : Statement) → IsFine sig e → IsOwn sig None e e

pub data OwnFault (sig : Signature) : Option Classes → Statement → FaultKind → Type 0 where
  of_rule : (K : Classes) (e : Statement) (cause : FaultKind) → e.rule ≡ true → ObjectRuleFault sig K e cause → OwnFault sig (Some K) e cause
  of_equation : (K : Classes) (e : Statement) (cause : FaultKind) → e.rule ≡ false → HasFaultOfTerms sig e cause → OwnFault sig (Some K) e cause
  of_statement : (e : Statement) (cause : FaultKind) → HasFaultOfTerms sig e cause → OwnFault sig None e cause

module _ (sig : Signature) (variables : List Variable) (objects : Option Classes) where
  -- The written statement is read as this one: its texts spell these sides, and no others of one kind, and each fragment of its condition is one of these.
  pub record IsReadAs (e : Sides) (st : Statement) : Type 0 where
    pub left : RawTerm
    pub right : RawTerm
    pub read : ReadsPair sig variables (texts e.left) (texts e.right) (left, right)
    pub condition : List Fragment
    pub fragments : AreFragments sig variables e.fragments condition
    pub holds : IsOwn sig objects (statement_of left right condition e.rule e.executable) st

  -- what is wrong with a written statement, in this order: with the texts of its sides, with those of a fragment, or with its terms
  pub data StatementFault (e : Sides) (cause : FaultKind) : Type 0 where
    bad_sides : PairFault sig variables (texts e.left) (texts e.right) cause → StatementFault e cause
    bad_fragment : (left right : RawTerm) → ReadsPair sig variables (texts e.left) (texts e.right) (left, right)
        → FirstFragmentFault sig variables e.fragments cause → StatementFault e cause
    bad_terms : (left right : RawTerm) (C : List Fragment) → ReadsPair sig variables (texts e.left) (texts e.right) (left, right)
        → AreFragments sig variables e.fragments C → OwnFault sig objects (statement_of left right C e.rule e.executable) cause → StatementFault e cause

  -- they are read as these statements, one for one
  abbrev pub AreReadAs : List Sides → List Statement → Type 0
  AreReadAs es sts = AreRelated IsReadAs es sts

  -- one that has this fault, at its line
  abbrev pub HasFault : Fault → Sides → Type 0
  HasFault r e = StatementFault e r.kind × (r.line ≡ e.line)

  -- the first one that isn't read as a statement is at fault
  abbrev pub FirstFault : List Sides → Fault → Type 0
  FirstFault es r = IsFirstWrong IsReadAs (HasFault r) es
