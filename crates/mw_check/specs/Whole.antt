-- Verdicts on whole proof texts.
use Rattle.std.specs.Prelude.{◌≡◌, ℕ}
use Rattle.mw_logic.specs.Term.{RawTerm}
use Rattle.mw_logic.specs.Module.{Module}
use Rattle.mw_deduction.specs.Runs.{Dones}
use Rattle.mw_proof.specs.Counting.{capped}
use Rattle.mw_items.specs.Items.{Items}
use Rattle.mw_verdict.specs.Checks.{Checks}
use Rattle.mw_verdict.specs.Proved.{HasProof}
use Rattle.mw_verdict.specs.Verdicts.{IsNo}
use Rattle.mw_check.specs.Answers.{cause_of}
use Rattle.mw_check.specs.declared.checking.Verdict.{Verdict}
use Rattle.mw_check.specs.declared.checking.Verdict.TheVariants as verdict

-- The items are checked from the one term to the other, so there is a proof of what they do, and it counts so many replacements.
pub record IsDeductionOf (M : Module) (from to : RawTerm) (items : Items) (count : ℕ) : Type 0 where
  pub rules : ℕ
  pub replacements : ℕ
  pub run : Dones
  pub checks : Checks M 63 items from to rules replacements run
  pub proof : HasProof M 63 from to rules replacements run
  pub count_is : count ≡ capped replacements

-- Yes, of these terms, where the items are a deduction; or no, exactly by its cause.
abbrev pub IsVerdictOf : Module → ℕ → RawTerm → RawTerm → Items → Verdict → Type 0
IsVerdictOf M most from to items (verdict.Yes f t count) = (f ≡ from) × (t ≡ to) × IsDeductionOf M from to items count
IsVerdictOf M most from to items (verdict.No step c) = IsNo M most from to items step (cause_of c)
