use Rattle.std.proofs.Common.{◌≡◌, ◌++◌, List, map, length}
use Rattle.mw_text.specs.Names.{items_of, pieces}
use Rattle.mw_print.specs.Tokens.{Token, token}
use Rattle.mw_print.specs.Printing.{head}
use Rattle.mw_print.specs.Writing.{written}
use Rattle.mw_print.proofs.printing.print_head.Given as goal

abbrev pub invariant-loop-front : goal.invariant-loop-front
invariant-loop-front l = (ts : List Token) → written l.writer (map token (pieces (items_of l.name)) ++ ts) ≡ written l.fn.writer (head l.operator ++ ts)

abbrev pub decreases-loop-front : goal.decreases-loop-front
decreases-loop-front l = length l.name
