use Rattle.std.proofs.Common.{◌≡◌, ◌++◌, drop, map}
use Rattle.mw_term.specs.Signatures.{gather_of}
use Rattle.mw_declare.specs.Grouping.{gather_of_mark}
use Rattle.mw_declare.proofs.grouping.said_gather.Given as goal

abbrev pub invariant-loop-mark : goal.invariant-loop-mark
invariant-loop-mark l = map gather_of l.marks.items ++ map gather_of_mark (drop l.mark-index l.said) ≡ map gather_of_mark l.said
