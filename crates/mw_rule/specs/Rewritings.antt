-- What a rewriting gives.
use Rattle.std.specs.Prelude.{◌≡◌, ◌≢◌, ◌<◌, ◌≤◌, ℕ, true, Option, Some}
use Rattle.mw_logic.specs.Term.{RawTerm}
use Rattle.mw_logic.specs.Parts.{nested}
use Rattle.mw_logic.specs.Module.{Module}
use Rattle.mw_logic.specs.Proof.{Proof, rules, steps}
use Rattle.mw_logic.specs.Judgements.{Proves}
use Rattle.mw_logic.specs.Ends.{Limits, Stops, IsFinal}
use Rattle.mw_proof.specs.Deductions.{Deduction}
use Rattle.mw_proof.specs.Reasons.{reason_of}
use Rattle.mw_reduce.specs.Reductions.{IsNormalWhere}
use Rattle.mw_reduce.specs.declared.drive.Outcome.{Outcome}
use Rattle.mw_reduce.specs.declared.drive.Outcome.TheVariants.{Done, Stopped}
use Rattle.mw_rule.specs.declared.rewriting.Bounds.{Bounds}

-- with rules, as many as the bound says, if there is one, at most so many steps, and so many for each side of a condition
abbrev pub limits_of : Bounds → Limits
limits_of b = record { rules_too = true; bound = b.rules; most = b.steps; most_of_sides = b.side }

-- `Done`: below the limit on steps, its rules not as many as the bound, and at a final term. `Stopped`: a stop by its reason.
abbrev pub IsRewritten : Module → Limits → RawTerm → Proof → RawTerm → Outcome → Type 0
IsRewritten M limits t0 p t Done = (steps p < limits.most) × (Some (rules p) ≢ limits.bound) × IsFinal M t
IsRewritten M limits t0 p t (Stopped reason) = Stops M 63 limits t0 p t (reason_of reason)

-- The proof keeps within limits, whatever it ends by: it has no more steps than are allowed, and no more rules than the bound, where there is one.
pub record IsWithin (bound : Option ℕ) (most : ℕ) (p : Proof) : Type 0 where
  pub no_more_steps : steps p ≤ most
  pub no_more_rules : (n : ℕ) → bound ≡ Some n → rules p ≤ n

-- a rewriting of t in M within bounds
pub record IsRewritingOf (M : Module) (t : RawTerm) (b : Bounds) (d : Deduction) (o : Outcome) : Type 0 where
  pub over : d.over ≡ M
  pub rank : d.rank ≡ 63
  pub from : d.from ≡ t
  pub proves : Proves M 63 d.proof (nested M.signature d.from) (nested M.signature d.to)
  pub within : IsWithin b.rules b.steps d.proof
  pub ends : IsRewritten M (limits_of b) (nested M.signature d.from) d.proof (nested M.signature d.to) o
  pub handed : IsNormalWhere M 63 d.to o
