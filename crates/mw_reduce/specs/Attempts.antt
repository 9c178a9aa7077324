-- What comes of a choice: its condition holds, fails, or a side of it stops.
use Rattle.std.specs.Prelude.{◌≡◌, ◌≢◌, ◌-◌, ◌^◌, min, ℕ, suc, List, [], length, Bool, false, Option, IsTrue}
use Rattle.mw_logic.specs.Term.{RawTerm}
use Rattle.mw_logic.specs.Signature.{IsRawTerm}
use Rattle.mw_logic.specs.Substitution.{Substitution, IsSolution}
use Rattle.mw_logic.specs.Parts.{nested, IsClean}
use Rattle.mw_logic.specs.NormalForm.{normal_form, height}
use Rattle.mw_position.specs.Positions.{fill}
use Rattle.mw_pattern.specs.Clean.{clean}
use Rattle.mw_logic.specs.Module.{Fragment, Module, Statement, IsStatement}
use Rattle.mw_canon.specs.Canonical.{IsAdmittedTerm}
use Rattle.mw_least.specs.Workable.{IsOrdinary}
use Rattle.mw_trail.specs.Tracks.{Track}
use Rattle.mw_proof.specs.declared.reason.Reason.{Reason}
use Rattle.mw_proof.specs.declared.reason.Reason.TheVariants.{Rules, Rewrites, Depth, Nat, Nest, Condition}
use Rattle.mw_index.specs.Choices.{IsChoice, tried_of}
use Rattle.mw_index.specs.declared.oriented.Oriented.{Oriented}
use Rattle.mw_index.specs.declared.choices.Choice.{Choice}
use Rattle.mw_frames.specs.State.{Run, Data}
use Rattle.mw_frames.specs.Steps.{IsAskedFor, asked_term}
use Rattle.mw_frames.specs.Machines.{all_moves}
use Rattle.mw_canon.specs.Free.{IsFree}
use Rattle.mw_frames.specs.Redex.{IsRedex}
use Rattle.mw_frames.specs.Fires.{IsPartTaken, IsSure}
use Rattle.mw_frames.specs.declared.applying.Applied.{Applied}
use Rattle.mw_frames.specs.declared.looking.Asked.{Asked}
use Rattle.mw_reduce.specs.Turns.{IsFailed}
use Rattle.mw_reduce.specs.Evaluations.{IsStoppedInside}
use Rattle.mw_reduce.specs.declared.attempts.Attempt.{Attempt}
use Rattle.mw_reduce.specs.declared.attempts.Attempt.TheVariants.{Made, Fails, Halts}

-- the statement, as it is applied: what is sure isn't where there is a condition
pub record IsAppliedAs (e : Oriented) (a : Applied) : Type 0 where
  pub number : a.number ≡ e.number
  pub rule : a.rule ≡ e.rule
  pub right : a.right.now ≡ e.right
  pub free : a.free ≡ e.free
  pub levels : a.levels ≡ e.levels
  pub sure : IsTrue a.sure → IsTrue e.sure × (e.condition.tests ≡ [])

-- a choice at a term, for a part that is admitted
pub record IsTriable (M : Module) (t : RawTerm) (c : Choice) : Type 0 where
  pub choice : IsChoice M t c
  pub sized : length c.values.items ≡ length c.by.now.sorts
  pub admitted : IsAdmittedTerm M.signature choice.part

-- Its statement applies, by its values, to the term or what it takes of it: these trails show the condition.
pub record IsMade (M : Module) (n : ℕ) (t : RawTerm) (c : Choice) (sides : List Track) : Type 0 where
  pub part : RawTerm
  pub taken : IsPartTaken M.signature c.take t part
  pub redex : IsRedex M n c.by.now.number (all_moves M sides) c.values.items (clean c.by.now.right) part
  pub rule : redex.statement.rule ≡ c.by.now.rule
  pub free : IsTrue c.by.now.free → IsFree M.signature (clean c.by.now.right)
  pub levels : c.by.now.levels ≡ min (height (fill [] (clean c.by.now.right))) (2 ^ 16 - 1)
  pub sure : IsTrue c.by.now.sure → c.by.now.condition.tests ≡ [] → IsSure M n redex.statement c.values.items

-- Why it isn't told whether a condition holds from s on: it would be one too many, or a side of it stops.
abbrev pub IsCause : Module → ℕ → ℕ → List Fragment → Substitution → Reason → Type 0
IsCause M n side C s Rules = ⊥
IsCause M n side C s Rewrites = ⊥
IsCause M n side C s Depth = ⊥
IsCause M n side C s Nat = ⊥
IsCause M n side C s Nest = (n ≡ 0) × (C ≢ [])
IsCause M n side C s Condition = (m : ℕ) × (n ≡ suc m) × (why : Reason) × IsStoppedInside M m side C s why

-- So it isn't for an equation, or for a rule where b says so, that has a solution for the term w.
pub record IsHalting (M : Module) (b : Bool) (n side : ℕ) (w : RawTerm) (why : Reason) : Type 0 where
  pub number : ℕ
  pub statement : Statement
  pub is_there : IsStatement M number statement
  pub rule : statement.rule ≡ b
  pub ordinary : IsOrdinary M.signature statement
  pub solution : Substitution
  pub solves : IsSolution M.signature statement.left w [] solution
  pub cause : IsCause M n side statement.fragments solution why

-- the same for a flattened term, or for what is taken of it
pub record IsHaltingAt (M : Module) (b : Bool) (n side : ℕ) (t : RawTerm) (take : Option (List ℕ)) (why : Reason) : Type 0 where
  pub part : RawTerm
  pub taken : IsPartTaken M.signature take t part
  pub raw : IsRawTerm M.signature (nested M.signature part)
  pub clean : IsClean M.signature (nested M.signature part)
  pub is : normal_form M.signature (nested M.signature part) ≡ part
  pub halting : IsHalting M b n side (nested M.signature part) why

abbrev pub IsAttempt : Module → ℕ → ℕ → RawTerm → Choice → Choice → Attempt → Type 0
IsAttempt M n side t old new (Made sides) = IsMade M n t new sides.items
IsAttempt M n side t old new Fails = (e : Statement) → IsStatement M old.by.now.number e → IsFailed M n (tried_of old) e
IsAttempt M n side t old new (Halts why) = IsHaltingAt M old.by.now.rule n side t old.take why

-- what was asked for is a choice that applies
pub record IsReady (K : Run) (count : ℕ) (d : Data) (a : Asked) (c : Choice) (sides : List Track) : Type 0 where
  pub asked : IsAskedFor K count d a
  pub made : IsMade K.over K.rank (asked_term d a) c sides
  pub equation : c.by.now.rule ≡ false

-- or isn't told of
pub record IsHaltedAt (K : Run) (count side : ℕ) (d : Data) (a : Asked) (take : Option (List ℕ)) (why : Reason) : Type 0 where
  pub asked : IsAskedFor K count d a
  pub halting : IsHaltingAt K.over false K.rank side (asked_term d a) take why
