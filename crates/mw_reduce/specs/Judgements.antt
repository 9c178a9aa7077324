-- What is told of a condition, and of a term, asked of by themselves.
use Rattle.std.specs.Prelude.{◌≡◌, ◌≢◌, ◌⊎◌, ℕ, suc, List, [], map}
use Rattle.mw_logic.specs.Term.{RawTerm}
use Rattle.mw_logic.specs.Parts.{nested}
use Rattle.mw_logic.specs.Substitution.{Substitution, Extends}
use Rattle.mw_logic.specs.Module.{Module, Statement, IsStatement}
use Rattle.mw_logic.specs.Proof.{reflexivity}
use Rattle.mw_logic.specs.Judgements.{Fails, IsNormal, admitted_judgements}
use Rattle.mw_logic.specs.Ends.{Stops}
use Rattle.mw_logic.specs.Confluence.{IsReducible}
use Rattle.mw_canon.specs.Canonical.{meant}
use Rattle.mw_position.specs.Variables.{met, bound_variables, bound_values}
use Rattle.mw_deduction.specs.Replay.{all_sides, begun_sides}
use Rattle.mw_proof.specs.Deductions.{Deduction}
use Rattle.mw_proof.specs.Replacing.{evidence, AreBelow}
use Rattle.mw_proof.specs.Reasons.{reason_of}
use Rattle.mw_proof.specs.declared.reason.Reason.{Reason}
use Rattle.mw_proof.specs.declared.reason.Reason.TheVariants as reason
use Rattle.mw_index.specs.Conditions.{IsConditionOf}
use Rattle.mw_index.specs.declared.conditions.Condition.{Condition}
use Rattle.mw_reduce.specs.Limits.{limits_within}
use Rattle.mw_reduce.specs.Evaluations.{AreBoundTo, IsStoppedInside}
use Rattle.mw_reduce.specs.declared.judging.Tried.{Tried}
use Rattle.mw_reduce.specs.declared.judging.Tried.TheVariants as tried
use Rattle.mw_reduce.specs.declared.judging.Normality.{Normality}
use Rattle.mw_reduce.specs.declared.judging.Normality.TheVariants as normality

-- the executable statement of this number, its condition, and values of its left side's variables, in the order in which these are met
pub record IsAskedOf (M : Module) (number : ℕ) (c : Condition) (s : Substitution) (e : Statement) : Type 0 where
  pub is_there : IsStatement M number e
  pub condition : IsConditionOf M.signature e c
  pub variables : bound_variables s ≡ met [] e.left
  pub bound : AreBoundTo M (met [] e.left) (bound_values s)

-- Its condition holds in rank n from s on, by deductions of its sides in lower ranks, in order, and reaches these values of all its variables. Each deduction
-- begins at the canonical instance of its side.
pub record IsHeldWith (M : Module) (n : ℕ) (e : Statement) (s values : Substitution) (ds : List Deduction) : Type 0 where
  pub reached : Substitution
  pub holds : (admitted_judgements M n).Held e.fragments (meant M.signature s) (evidence ds) reached
  pub reaches : Extends reached (meant M.signature values)
  pub variables : bound_variables values ≡ e.variables
  pub bound : AreBoundTo M e.variables (bound_values values)
  pub below : AreBelow M n ds
  pub starts : map (λ (d : Deduction). nested M.signature d.from) ds ≡ begun_sides M.signature (meant M.signature values) (all_sides e.fragments)

-- it would be one too many, or a side stops
abbrev pub IsUntold : Module → ℕ → ℕ → Statement → Substitution → Reason → Type 0
IsUntold M n side e s why = ((n ≡ 0) × (why ≡ reason.Nest) × (e.fragments ≢ [])) ⊎ ((m : ℕ) × (n ≡ suc m) × IsStoppedInside M m side e.fragments (meant M.signature s) why)

abbrev pub IsTriedOf : Module → ℕ → ℕ → ℕ → Statement → Substitution → Tried → Type 0
IsTriedOf M n side number e s (tried.Held values ds) = IsHeldWith M n e s values ds.items
IsTriedOf M n side number e s (tried.Failed f) = (f ≡ record { over = M; statement = number; subst = s }) × Fails M n e.fragments (meant M.signature s)
IsTriedOf M n side number e s (tried.Stopped why) = IsUntold M n side e s why

-- The term is normal; or an equation's condition holds or a row is met at one of its parts; or it isn't told, for why a reduction stops before a first step.
abbrev pub IsJudged : Module → ℕ → ℕ → RawTerm → Normality → Type 0
IsJudged M n side t normality.Yes = IsNormal M n (nested M.signature t)
IsJudged M n side t normality.No = IsReducible M n (nested M.signature t)
IsJudged M n side t (normality.Stopped why) = Stops M n (limits_within 1 side) (nested M.signature t) reflexivity (nested M.signature t) (reason_of why)
