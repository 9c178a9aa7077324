use Rattle.std.proofs.Common.{◌-◌, drop}
use Rattle.mw_logic.specs.Signature.{Signature}
use Rattle.mw_logic.specs.Terms.{terms_of}
use Rattle.mw_builtin.specs.Schemata.{AreSchemataOf, on_numbers}
use Rattle.mw_builtin.proofs.Neighbours.{Quiet}
use Rattle.mw_builtin.proofs.pairs.first_pair.Given as goal

abbrev pub invariant-loop-index : goal.invariant-loop-index
invariant-loop-index l = (sig : Signature) → AreSchemataOf sig l.fn.schemata → Quiet sig (on_numbers l.fn.operator) l.fn.comm (terms_of (drop (l.index - 1) l.fn.args)) → Quiet sig (on_numbers l.fn.operator) l.fn.comm (terms_of l.fn.args)
