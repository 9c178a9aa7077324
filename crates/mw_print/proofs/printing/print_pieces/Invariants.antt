use Rattle.std.proofs.Common.{◌≡◌, ◌++◌, List, length}
use Rattle.mw_text.specs.Names.{items_of}
use Rattle.mw_print.specs.Tokens.{Token}
use Rattle.mw_print.specs.Chains.{before_hole, after_hole}
use Rattle.mw_print.specs.Writing.{written}
use Rattle.mw_print.proofs.printing.print_pieces.Given as goal

abbrev pub invariant-loop-item : goal.invariant-loop-item
invariant-loop-item l = record {
  text : (ts : List Token) → written l.writer (before_hole (items_of l.rest) ++ ts) ≡ written l.fn.writer (before_hole (items_of l.name) ++ ts);
  behind : after_hole (items_of l.rest) ≡ after_hole (items_of l.name);
}

abbrev pub decreases-loop-item : goal.decreases-loop-item
decreases-loop-item l = length l.rest
