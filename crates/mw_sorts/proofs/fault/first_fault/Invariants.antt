use Rattle.std.proofs.Common.{map}
use Rattle.std.specs.Prelude.{is_none}
use Rattle.mw_term.specs.Signatures.{sorted_of}
use Rattle.mw_sorts.proofs.Marking.{IsWalking}
use Rattle.mw_sorts.proofs.fault.first_fault.Given as goal

abbrev pub invariant-loop-i : goal.invariant-loop-i
invariant-loop-i l = IsWalking l.drawing.levels (map is_none l.drawing.ends) (map (map sorted_of) l.drawing.entries) l.i l.state (map sorted_of l.sorts.items)
