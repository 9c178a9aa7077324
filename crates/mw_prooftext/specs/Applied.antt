-- Where a statement is applied.
use Rattle.std.specs.Prelude.{◌≡◌, ℕ, List, Bool, Some}
use Rattle.mw_logic.specs.Term.{RawTerm}
use Rattle.mw_logic.specs.Signature.{at_number}
use Rattle.mw_logic.specs.Substitution.{Substitution}
use Rattle.mw_logic.specs.Module.{Module, Statement}
use Rattle.mw_deduction.specs.Stands.{IsStanding}
use Rattle.mw_deduction.specs.Replay.{Stand, MayApply}

-- the statement may be applied by these values to what is in hand at some stand
pub record IsApplied (M : Module) (e : Statement) (vs : List RawTerm) : Type 0 where
  pub number : ℕ
  pub by_rule : Bool
  pub subst : Substitution
  pub stand : Stand
  pub is_there : at_number M.statements number ≡ Some e
  pub stands : IsStanding M stand
  pub may : MayApply M number by_rule subst vs stand
