-- A test of normality stops before a first step: where one step is allowed, and so where more are.
use Rattle.std.specs.Prelude.{◌≡◌, ◌≤◌, ◌<◌, ℕ, zero, suc, Some, None}
use Rattle.std.proofs.Common.{arith, inr}
use Rattle.mw_logic.specs.Term.{RawTerm, Context}
use Rattle.mw_logic.specs.Substitution.{Substitution}
use Rattle.mw_logic.specs.Parts.{nested}
use Rattle.mw_logic.specs.Module.{Module, Statement}
use Rattle.mw_logic.specs.Proof.{reflexivity}
use Rattle.mw_logic.specs.Judgements.{Judgements, judgements}
use Rattle.mw_logic.specs.Ends.{Reason, Limits, limits_of, Tries, NextStep, by_statement, by_row, StopsBy, Stops}
use Rattle.mw_proof.specs.Reasons.{reason_of}
use Rattle.mw_proof.specs.declared.reason.Reason.{Reason as Stop}
use Rattle.mw_reduce.specs.Limits.{limits_within}
use Rattle.mw_verdict.specs.Verdicts.{IsStopped}

module _ (M : Module) (J : Judgements) (at_zero : Type 0) (side_stops : RawTerm → Type 0) (most : ℕ) (positive : 1 ≤ most) (t : RawTerm) where
  abbrev one : Limits
  one = limits_within 1 most

  tries_again : (C : Context) (e : Statement) (s : Substitution) → Tries M J one reflexivity t C e s → Tries M J (limits_of most) reflexivity t C e s
  tries_again C e s h = record { part = h.part; is_part = h.is_part; number = h.number; is_there = h.is_there; solution = h.solution; may = h.may }

  steps_again : {v : RawTerm} → NextStep M J one reflexivity t v → NextStep M J (limits_of most) reflexivity t v
  steps_again (by_statement C e s r es tries held) = by_statement C e s r es (tries_again C e s tries) held
  steps_again (by_row C w v part row) = by_row C w v part row

  below : 0 < most
  below = omega (arith, positive)

  zero_one : ◌≡◌ {A = ℕ} 0 1 → ⊥
  zero_one e = cc

  none_some : {n : ℕ} → Some n ≡ None → ⊥
  none_some e = cc

  stops_again : {why : Reason} → StopsBy M J at_zero side_stops one t reflexivity t why → StopsBy M J at_zero side_stops (limits_of most) t reflexivity t why
  stops_again (StopsBy.rewrites p e) = absurd (zero_one e)
  stops_again (StopsBy.rules_spent g e n) = absurd (none_some e)
  stops_again (StopsBy.depth v g x d) = StopsBy.depth v (g.0, below) (steps_again x) d
  stops_again (StopsBy.large v g x l d) = StopsBy.large v (g.0, below) (steps_again x) l d
  stops_again (StopsBy.big_pair C w g part big) = StopsBy.big_pair C w (g.0, below) part big
  stops_again (StopsBy.condition C e s r held rest f es side g tries is holds of stops) = StopsBy.condition C e s r held rest f es side (g.0, below) (tries_again C e s tries) is holds of stops
  stops_again (StopsBy.nest C e s g z tries some) = StopsBy.nest C e s (g.0, below) z (tries_again C e s tries) some

stops_more : (M : Module) (n most : ℕ) → 1 ≤ most → (t : RawTerm) (why : Reason) → Stops M n (limits_within 1 most) t reflexivity t why → Stops M n (limits_of most) t reflexivity t why
unfolding Stops
stops_more M zero most l t why h = stops_again M (judgements M 0) _ _ most l t h
stops_more M (suc n) most l t why h = stops_again M (judgements M (suc n)) _ _ most l t h

pub is_stopped : (M : Module) (n most : ℕ) → 1 ≤ most → (t : RawTerm) (why : Stop) → Stops M n (limits_within 1 most) (nested M.signature t) reflexivity (nested M.signature t) (reason_of why) → IsStopped M most n (nested M.signature t)
is_stopped M n most l t why h = (reason_of why, inr (stops_more M n most l (nested M.signature t) (reason_of why) h))
