use Rattle.std.proofs.Common.{◌+◌, ◌-◌, List, length}
use Rattle.mw_solving.specs.Values.{IsValue}
use Rattle.mw_index.specs.Index.{own_asked, others_asked, operator_of}
use Rattle.mw_index.specs.Choices.{Tried, subject_of, Covers}
use Rattle.mw_index.proofs.choices.Choices.next.Given as goal

abbrev pub invariant-loop-turn : goal.invariant-loop-turn
invariant-loop-turn l = (tried : List Tried) → IsValue l.context.signature (subject_of l.subject) → Covers l.context l.index (subject_of l.subject) tried l.fn.self → Covers l.context l.index (subject_of l.subject) tried l.self

abbrev pub decreases-loop-turn : goal.decreases-loop-turn
decreases-loop-turn l =
    (length (own_asked l.index (operator_of (subject_of l.subject))) - l.self.own) + (length (others_asked l.index (operator_of (subject_of l.subject))) - l.self.others)
