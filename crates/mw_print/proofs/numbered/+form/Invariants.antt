use Rattle.std.proofs.Common.{◌≡◌, ◌++◌, ◌*◌, ◌+◌, ◌≤◌, List, length}
use Rattle.mw_logic.specs.NormalForm.{height, highest}
use Rattle.mw_logic.specs.Terms.{terms_of}
use Rattle.mw_print.specs.Tokens.{Token}
use Rattle.mw_print.specs.Printing.{divided}
use Rattle.mw_print.specs.Prefix.{forms_of}
use Rattle.mw_print.specs.Writing.{written}
use Rattle.mw_print.proofs.numbered.+form.Given as goal

abbrev pub decreases-write_form : goal.decreases-write_form
decreases-write_form l = 3 * height l.term.now

abbrev pub decreases-write_args : goal.decreases-write_args
decreases-write_args l = 3 * highest (terms_of l.args.now) + 2

abbrev pub decreases-write_list : goal.decreases-write_list
decreases-write_list l = 3 * highest (terms_of l.args.now) + 1

abbrev pub invariant-write_list-loop-rest : goal.invariant-write_list-loop-rest
invariant-write_list-loop-rest l = record {
  text : (ts : List Token) → written l.writer (divided (forms_of l.signature l.rest) ++ ts) ≡ written l.fn.writer (divided (forms_of l.signature l.args) ++ ts);
  lower : highest (terms_of l.rest) ≤ highest (terms_of l.args);
}

abbrev pub decreases-write_list-loop-rest : goal.decreases-write_list-loop-rest
decreases-write_list-loop-rest l = length l.rest
