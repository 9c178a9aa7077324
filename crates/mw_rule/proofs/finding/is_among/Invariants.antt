use Rattle.std.specs.Prelude.{slice_get}
use Rattle.std.proofs.Common.{◌<◌, ◌≡◌, ℕ, Some}
use Rattle.mw_proof.specs.Failures.{Failure}
use Rattle.mw_rule.specs.Finding.{IsFailureOf}
use Rattle.mw_rule.proofs.finding.is_among.Given as goal

abbrev pub invariant-loop-failing : goal.invariant-loop-failing
invariant-loop-failing l = (i : ℕ) (f : Failure) → i < l.failing-index → slice_get l.failures i ≡ Some f → IsFailureOf f l.number l.subst → ⊥
