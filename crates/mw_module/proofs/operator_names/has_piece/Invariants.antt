use Rattle.std.proofs.Common.{◌≡◌, length}
use Rattle.std.specs.List.{list_any}
use Rattle.mw_text.specs.Names.{items_of}
use Rattle.mw_module.specs.OperatorNames.{is_piece}
use Rattle.mw_module.proofs.operator_names.has_piece.Given as goal

abbrev pub invariant-loop-item : goal.invariant-loop-item
invariant-loop-item l = list_any is_piece (items_of l.rest) ≡ list_any is_piece (items_of l.text)

abbrev pub decreases-loop-item : goal.decreases-loop-item
decreases-loop-item l = length l.rest
