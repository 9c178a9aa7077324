use Rattle.std.proofs.Common.{◌≡◌, ◌++◌, map, length}
use Rattle.std.specs.List.{join_with_byte}
use Rattle.mw_print.specs.Sorts.{name_in_kind}
use Rattle.mw_print.proofs.sorts.print_sorts.Given as goal

abbrev pub invariant-loop-rest : goal.invariant-loop-rest
invariant-loop-rest l = l.text.items ++ join_with_byte 44 (map (name_in_kind l.signature) l.rest) ≡ l.fn.text.items ++ join_with_byte 44 (map (name_in_kind l.signature) l.sorts)

abbrev pub decreases-loop-rest : goal.decreases-loop-rest
decreases-loop-rest l = length l.rest
