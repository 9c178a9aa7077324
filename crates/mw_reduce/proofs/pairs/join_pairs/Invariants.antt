use Rattle.std.proofs.Common.{◌-◌, ◌≡◌, ◌+◌, ◌≤◌, ℕ, drop, length}
use Rattle.mw_logic.specs.Term.{apply, join}
use Rattle.mw_logic.specs.Terms.{terms_of}
use Rattle.mw_logic.specs.TermOrder.{sorted_terms}
use Rattle.mw_logic.proofs.SortedLists.{Climbs}
use Rattle.mw_frames.specs.State.{Run, IsRun}
use Rattle.mw_frames.specs.Machines.{data_of}
use Rattle.mw_frames.specs.Steps.{IsAsked}
use Rattle.mw_frames.specs.Pairs.{IsJoining}
use Rattle.mw_reduce.proofs.pairs.join_pairs.Given as goal

abbrev pub invariant-loop-count : goal.invariant-loop-count
invariant-loop-count l =
    (l.count ≤ l.limit) × (l.left.made ≤ length l.made.items) × (l.count ≡ 0 → l.machine ≡ l.fn.machine)
    × ((K : Run) (k : ℕ) → IsRun K l.context.signature → K.over ≡ l.context → IsJoining K.over.signature l.operator → IsAsked K k (data_of K.over l.fn.machine) l.term
    → Climbs (terms_of (drop l.left.own l.args)) × Climbs (terms_of (drop l.left.made l.made.items))
    × IsAsked K (k + l.count) (data_of K.over l.machine) (apply l.operator (sorted_terms (join (terms_of (drop l.left.own l.args)) (terms_of (drop l.left.made l.made.items))))))

abbrev pub decreases-loop-count : goal.decreases-loop-count
decreases-loop-count l = l.limit - l.count
