use Rattle.std.proofs.Common.{◌≡◌, ◌++◌, true, map, length}
use Rattle.mw_term.specs.Signatures.{gather_of}
use Rattle.mw_text.specs.Names.{items_of}
use Rattle.mw_declare.specs.Grouping.{gather_behind}
use Rattle.mw_declare.proofs.grouping.gather_by_place.Given as goal

abbrev pub invariant-loop-item : goal.invariant-loop-item
invariant-loop-item l = map gather_of l.marks.items ++ gather_behind l.first (items_of l.rest) ≡ gather_behind true (items_of l.spelling)

abbrev pub decreases-loop-item : goal.decreases-loop-item
decreases-loop-item l = length l.rest
