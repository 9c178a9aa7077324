-- What a reduction gives.
use Rattle.std.specs.Prelude.{◌≡◌, ◌<◌, ℕ, ⊤}
use Rattle.mw_logic.specs.Term.{RawTerm}
use Rattle.mw_logic.specs.Parts.{nested}
use Rattle.mw_logic.specs.Module.{Module}
use Rattle.mw_logic.specs.Proof.{Proof, rules, steps}
use Rattle.mw_logic.specs.Judgements.{Proves, IsNormal, admitted_judgements}
use Rattle.mw_logic.specs.Ends.{Limits, Stops}
use Rattle.mw_deduction.specs.Tops.{IsNormalTerm}
use Rattle.mw_proof.specs.Deductions.{Deduction}
use Rattle.mw_proof.specs.Reasons.{reason_of}
use Rattle.mw_reduce.specs.Limits.{limits_within}
use Rattle.mw_reduce.specs.declared.drive.Outcome.{Outcome}
use Rattle.mw_reduce.specs.declared.drive.Outcome.TheVariants.{Done, Stopped}
use Rattle.mw_reduce.specs.declared.reducing.Budget.{Budget}

-- `Done`: below the limit on steps, and at a normal term. `Stopped`: a stop by its reason.
abbrev pub IsOutcome : Module → ℕ → Limits → RawTerm → Proof → RawTerm → Outcome → Type 0
IsOutcome M n limits t0 p t Done = (steps p < limits.most) × IsNormal M n t
IsOutcome M n limits t0 p t (Stopped reason) = Stops M n limits t0 p t (reason_of reason)

-- Where it is done, the flattened term that was reached is normal by evaluations through admitted terms alone, as a rule that is applied to it wants it.
abbrev pub IsNormalWhere : Module → ℕ → RawTerm → Outcome → Type 0
IsNormalWhere M n u Done = IsNormalTerm M (admitted_judgements M n).Fails u
IsNormalWhere M n u (Stopped reason) = ⊤

-- a reduction of t in M within a budget, at the rank that is its `nest`
pub record IsReductionOf (M : Module) (t : RawTerm) (b : Budget) (d : Deduction) (o : Outcome) : Type 0 where
  pub over : d.over ≡ M
  pub rank : d.rank ≡ b.nest
  pub from : d.from ≡ t
  pub equational : rules d.proof ≡ 0
  pub proves : Proves M b.nest d.proof (nested M.signature d.from) (nested M.signature d.to)
  pub ends : IsOutcome M b.nest (limits_within b.steps b.side) (nested M.signature d.from) d.proof (nested M.signature d.to) o
  pub handed : IsNormalWhere M b.nest d.to o
