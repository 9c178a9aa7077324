use Rattle.std.proofs.Common.{◌≡◌, ◌≤◌, ◌-◌, ◌+◌, ◌*◌, ℕ, suc, [], reverse}
use Rattle.mw_logic.specs.Module.{Statement, IsStatement}
use Rattle.mw_position.specs.Variables.{met}
use Rattle.mw_index.specs.Conditions.{IsConditionOf}
use Rattle.mw_frames.specs.State.{Run, IsRun, Holds}
use Rattle.mw_frames.specs.Machines.{data_of}
use Rattle.mw_reduce.specs.Events.{IsEvent, EventOf}
use Rattle.mw_reduce.specs.Evaluations.{AreBoundTo, bound_to, IsTrial}
use Rattle.mw_reduce.proofs.running.+run.Given as goal

abbrev pub decreases-run_on : goal.decreases-run_on
decreases-run_on l = 6 * l.nest + 5

abbrev pub decreases-find : goal.decreases-find
decreases-find l = 6 * l.nest + 4

abbrev pub decreases-try_choice : goal.decreases-try_choice
decreases-try_choice l = 6 * l.nest + 3

abbrev pub decreases-evaluate : goal.decreases-evaluate
decreases-evaluate l = 6 * l.nest + 2

abbrev pub decreases-try_test : goal.decreases-try_test
decreases-try_test l = 6 * l.nest + 1

abbrev pub decreases-run_side : goal.decreases-run_side
decreases-run_side l = 6 * l.nest

abbrev pub invariant-run_on-loop-left : goal.invariant-run_on-loop-left
invariant-run_on-loop-left l =
    (l.left ≤ l.limit) × ((K : Run) (k : ℕ) → IsRun K l.context.signature → K.over ≡ l.context → K.rank ≡ l.nest → Holds K k (data_of K.over l.fn.machine) l.fn.hand → Holds K (k + (l.limit - l.left)) (data_of K.over l.machine) l.hand)

abbrev pub decreases-run_on-loop-left : goal.decreases-run_on-loop-left
decreases-run_on-loop-left l = l.left

abbrev pub invariant-find-loop-rounds : goal.invariant-find-loop-rounds
invariant-find-loop-rounds l =
    EventOf l.context l.event
    × ((K : Run) (k : ℕ) → IsRun K l.context.signature → K.over ≡ l.context → K.rank ≡ l.nest → Holds K k (data_of K.over l.fn.machine) l.fn.hand → IsEvent K k l.side l.index (data_of K.over l.machine) l.choices l.event)

abbrev pub decreases-find-loop-rounds : goal.decreases-find-loop-rounds
decreases-find-loop-rounds l = l.rounds

abbrev pub invariant-evaluate-loop-rounds : goal.invariant-evaluate-loop-rounds
invariant-evaluate-loop-rounds l =
    (n number : ℕ) (e : Statement) → l.nest ≡ suc n → IsStatement l.context number e → IsConditionOf l.context.signature e l.condition → AreBoundTo l.context (met [] e.left) l.fn.values.items
    → IsTrial l.context n e l.condition.tests (bound_to l.context.signature (met [] e.left) l.fn.values.items) l.at l.values.items l.sides.items (reverse l.others.items)

abbrev pub decreases-evaluate-loop-rounds : goal.decreases-evaluate-loop-rounds
decreases-evaluate-loop-rounds l = l.rounds
