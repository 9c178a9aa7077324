use Rattle.std.specs.Prelude.{option_map}
use Rattle.std.proofs.Common.{◌≡◌, ◌+◌, ℕ}
use Rattle.mw_frames.specs.State.{Run, with_rules, IsRun, Holds}
use Rattle.mw_frames.specs.Machines.{data_of}
use Rattle.mw_rule.proofs.rewriting.run.Given as goal

-- so many rules and steps were made
abbrev pub invariant-loop-choices : goal.invariant-loop-choices
invariant-loop-choices l =
    (K : Run) → IsRun K l.context.signature → K.over ≡ l.context → K.rank ≡ 63 → K.rules ≡ 0 → Holds K 0 (data_of K.over l.fn.machine) l.fn.hand
    → (r : ℕ) × (count : ℕ) × Holds (with_rules r K) count (data_of K.over l.machine) l.hand × (count + l.left ≡ l.bounds.steps) × (option_map (λ n. n + r) l.bound ≡ l.bounds.rules)

abbrev pub decreases-loop-choices : goal.decreases-loop-choices
decreases-loop-choices l = l.left
