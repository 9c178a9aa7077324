use Rattle.std.proofs.Common.{◌≡◌, length}
use Rattle.mw_text.specs.Names.{items_of}
use Rattle.mw_declare.specs.Grouping.{ends_open_behind, ends_open}
use Rattle.mw_declare.proofs.grouping.ends_open.Given as goal

abbrev pub invariant-loop-item : goal.invariant-loop-item
invariant-loop-item l = ends_open_behind l.«open» (items_of l.rest) ≡ ends_open (items_of l.spelling)

abbrev pub decreases-loop-item : goal.decreases-loop-item
decreases-loop-item l = length l.rest
