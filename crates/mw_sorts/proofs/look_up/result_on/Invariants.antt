use Rattle.std.proofs.Common.{map, take}
use Rattle.mw_logic.specs.Signature.{Signature, Operator}
use Rattle.mw_logic.specs.Preregular.{AreOfKinds}
use Rattle.mw_term.specs.Signatures.{sorted_of}
use Rattle.mw_sorts.specs.Diagrams.{IsDiagram}
use Rattle.mw_sorts.proofs.Looking.{IsLed}
use Rattle.mw_sorts.proofs.look_up.result_on.Given as goal

abbrev pub invariant-loop-i : goal.invariant-loop-i
invariant-loop-i l = (sig : Signature) (o : Operator) → IsDiagram sig l.places o l.diagram → AreOfKinds sig (map sorted_of l.sorts) o.args → IsLed sig l.places l.levels l.diagram.ends o (take l.i (map sorted_of l.sorts)) l.i l.row
