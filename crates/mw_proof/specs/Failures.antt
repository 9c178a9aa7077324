-- Conditions that were found to fail.
use Rattle.std.specs.Prelude.{◌≡◌, ℕ, Some}
use Rattle.mw_logic.specs.Signature.{at_number}
use Rattle.mw_logic.specs.Substitution.{Substitution}
use Rattle.mw_logic.specs.Module.{Module, Statement}
use Rattle.mw_logic.specs.Judgements.{Fails}
use Rattle.mw_canon.specs.Canonical.{meant}

-- a statement of a module, by its number, and canonical terms for its variables
pub record Failure : Type 0 where
  pub over : Module
  pub statement : ℕ
  pub subst : Substitution

-- There is one, and its condition fails for these.
pub record IsFailure (f : Failure) : Type 0 where
  pub statement : Statement
  pub is_there : at_number f.over.statements f.statement ≡ Some statement
  pub fails : Fails f.over 63 statement.fragments (meant f.over.signature f.subst)
