use Rattle.std.proofs.Common.{◌≡◌, ◌++◌, length}
use Rattle.mw_text.specs.Names.{items_of, pieces}
use Rattle.mw_grammar.specs.Notations.{pieces_as}
use Rattle.mw_grammar.proofs.parts.push_pieces.Given as goal

abbrev pub invariant-loop-item : goal.invariant-loop-item
invariant-loop-item l = l.parts.items ++ pieces_as (pieces (items_of l.rest)) ≡ l.initial.parts.items ++ pieces_as (pieces (items_of l.name))

abbrev pub decreases-loop-item : goal.decreases-loop-item
decreases-loop-item l = length l.rest
