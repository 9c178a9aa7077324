use Rattle.std.proofs.Common.{◌≡◌, ◌++◌, ◌*◌, ◌+◌, ◌-◌, ◌≤◌, List, map, length}
use Rattle.mw_logic.specs.NormalForm.{height, highest}
use Rattle.mw_logic.specs.Terms.{terms_of}
use Rattle.mw_term.specs.Signatures.{gather_of}
use Rattle.mw_text.specs.Names.{items_of}
use Rattle.mw_print.specs.Tokens.{Token}
use Rattle.mw_print.specs.Printing.{all_shown, in_holes, divided, arguments_of}
use Rattle.mw_print.specs.Writing.{written}
use Rattle.mw_print.proofs.Chained.{IsOpen, IsEnding}
use Rattle.mw_print.proofs.printing.+print.Given as goal

abbrev pub decreases-print : goal.decreases-print
decreases-print l = 8 * height l.term.now

abbrev pub decreases-print_last : goal.decreases-print_last
decreases-print_last l = 8 * height l.arg.now + 1

abbrev pub decreases-print_in_hole : goal.decreases-print_in_hole
decreases-print_in_hole l = 8 * height l.arg.now + 1

abbrev pub decreases-print_list : goal.decreases-print_list
decreases-print_list l = 8 * highest (terms_of l.args.now) + 2

abbrev pub decreases-print_args : goal.decreases-print_args
decreases-print_args l = 8 * highest (terms_of l.args.now) + 3

abbrev pub decreases-print_mixfix : goal.decreases-print_mixfix
decreases-print_mixfix l = 8 * highest (terms_of l.args.now) + 3

abbrev pub decreases-print_operator : goal.decreases-print_operator
decreases-print_operator l = 8 * highest (terms_of l.args.now) + 6

abbrev pub decreases-print_joint : goal.decreases-print_joint
decreases-print_joint l = 8 * highest (terms_of l.args.now) + 5

abbrev pub decreases-print_chain : goal.decreases-print_chain
decreases-print_chain l = 8 * highest (terms_of l.args.now) + 4

abbrev pub decreases-print_front : goal.decreases-print_front
decreases-print_front l = 8 * height l.arg.now + 2

abbrev pub invariant-print_list-loop-rest : goal.invariant-print_list-loop-rest
invariant-print_list-loop-rest l = record {
  text : (ts : List Token) → written l.writer (divided (arguments_of l.assoc l.number (all_shown l.signature l.rest)) ++ ts)
      ≡ written l.fn.writer (divided (arguments_of l.assoc l.number (all_shown l.signature l.args)) ++ ts);
  lower : highest (terms_of l.rest) ≤ highest (terms_of l.args);
}

abbrev pub decreases-print_list-loop-rest : goal.decreases-print_list-loop-rest
decreases-print_list-loop-rest l = length l.rest

abbrev pub invariant-print_mixfix-loop-front : goal.invariant-print_mixfix-loop-front
invariant-print_mixfix-loop-front l = record {
  text : (ts : List Token) → written l.writer (in_holes l.operator.prec (items_of l.name) (map gather_of l.gather) (all_shown l.signature l.args) ++ ts)
      ≡ written l.fn.writer (in_holes l.operator.prec (items_of l.operator.spelling) l.operator.gather (all_shown l.signature l.args-2) ++ ts);
  lower : highest (terms_of l.args) ≤ highest (terms_of l.args-2);
}

abbrev pub decreases-print_mixfix-loop-front : goal.decreases-print_mixfix-loop-front
decreases-print_mixfix-loop-front l = length l.name

abbrev pub invariant-print_chain-loop-rest : goal.invariant-print_chain-loop-rest
invariant-print_chain-loop-rest l = record {
  text : IsOpen l.signature l.number l.operator l.fn.writer l.writer l.rest (length l.args - length l.rest) l.args;
  two : 2 ≤ length l.rest;
  within : length l.rest ≤ length l.args;
  lower : highest (terms_of l.rest) ≤ highest (terms_of l.args);
}

abbrev pub decreases-print_chain-loop-rest : goal.decreases-print_chain-loop-rest
decreases-print_chain-loop-rest l = length l.rest

abbrev pub invariant-print_chain-loop : goal.invariant-print_chain-loop
invariant-print_chain-loop l = record {
  text : IsEnding l.signature l.number l.operator l.fn.writer l.writer (l.end - l.counter) l.args;
  end : l.end ≡ length l.args;
}
