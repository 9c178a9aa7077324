-- What is found at what was asked for: an equation, a row, or a sum that is too big.
use Rattle.std.specs.Prelude.{◌≡◌, ℕ, List, [], ◌∷◌, ◌++◌, length, false, Option}
use Rattle.mw_logic.specs.Term.{RawTerm}
use Rattle.mw_logic.specs.Signature.{Member}
use Rattle.mw_logic.specs.Substitution.{IsSubstitution}
use Rattle.mw_logic.specs.Module.{Module, Statement, IsStatement}
use Rattle.mw_logic.specs.Judgements.{IsNormalBy, admitted_judgements}
use Rattle.mw_builtin.specs.Steps.{IsGiven, IsTooBigAt, HasNoRow}
use Rattle.mw_index.specs.Index.{IsOf}
use Rattle.mw_index.specs.Choices.{IsChoice, Covers, Tried, tried_of, solution_of}
use Rattle.mw_index.specs.declared.oriented.Oriented.{Oriented}
use Rattle.mw_index.specs.declared.index.Index.{Index}
use Rattle.mw_index.specs.declared.choices.Choice.{Choice}
use Rattle.mw_index.specs.declared.choices.Choices.{Choices}
use Rattle.mw_frames.specs.State.{Run, Data}
use Rattle.mw_frames.specs.Steps.{IsAskedFor, asked_term}
use Rattle.mw_frames.specs.declared.looking.Asked.{Asked}

-- the equation with these values has a condition that fails
pub record IsFailed (M : Module) (n : ℕ) (c : Tried) (e : Statement) : Type 0 where
  pub substitution : IsSubstitution M.signature (solution_of M.signature e c.values)
  pub fails : (admitted_judgements M n).Fails e.fragments (solution_of M.signature e c.values)

-- so have all that were tried
abbrev pub AreFailed : Module → ℕ → List Tried → Type 0
AreFailed M n tried = (c : Tried) → Member c tried → (e : Statement) → IsStatement M c.number e → IsFailed M n c e

-- The next equation that has a solution for what was asked for, where no row is met: those before it have conditions that fail, and the others are still to
-- be asked.
pub record IsFound (K : Run) (count : ℕ) (m : Index) (d : Data) (rest : Choices) (a : Asked) (c : Choice) : Type 0 where
  pub asked : IsAskedFor K count d a
  pub rows : HasNoRow K.over.signature (asked_term d a)
  pub choice : IsChoice K.over (asked_term d a) c
  pub sized : length c.values.items ≡ length c.by.now.sorts
  pub equation : c.by.now.rule ≡ false
  pub tried : List Tried
  pub failed : AreFailed K.over K.rank tried
  pub others : Covers K.over m (asked_term d a) (tried ++ tried_of c ∷ []) rest

-- A row is met at what was asked for, or at several of its arguments.
pub record IsMetAt (K : Run) (count : ℕ) (d : Data) (a : Asked) (take : Option (List ℕ)) (to : RawTerm) : Type 0 where
  pub asked : IsAskedFor K count d a
  pub given : IsGiven K.over.signature (IsNormalBy K.over (admitted_judgements K.over K.rank).Fails) (asked_term d a) take to

-- It, or several of its arguments, are a sum or product that is too big.
pub record IsBigAt (K : Run) (count : ℕ) (d : Data) (a : Asked) (take : Option (List ℕ)) : Type 0 where
  pub asked : IsAskedFor K count d a
  pub big : IsTooBigAt K.over.signature (asked_term d a) take

-- a statement of the module, as the index has it
abbrev pub HasOriented : Module → Oriented → Type 0
HasOriented M st = (top : Option ℕ) × IsOf M top st
